use Rattle.std.proofs.Common.{drop}
use Rattle.std.specs.Prelude.{Contains}
use Rattle.ov_base_layer.specs.Holders.{accesses_of}
use Rattle.ov_state.proofs.chains.access_token.Given as goal

-- the access token that is looked for comes no earlier
abbrev pub invariant-loop-grant : goal.invariant-loop-grant
invariant-loop-grant l = Contains (accesses_of (drop l.grant-index l.grants)) (record { user = l.user; node = l.node })
