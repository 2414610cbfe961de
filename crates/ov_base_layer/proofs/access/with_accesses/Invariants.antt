use Rattle.std.proofs.Common.{◌≡◌, drop}
use Rattle.ov_base_layer.specs.Holders.{accesses_of, with_accesses}
use Rattle.ov_base_layer.proofs.access.with_accesses.Given as goal

abbrev pub invariant-loop-grant : goal.invariant-loop-grant
invariant-loop-grant g l =
    with_accesses (accesses_of (drop l.grant-index l.grants)) l.node l.holders
    ≡ with_accesses (accesses_of l.grants) l.node l.initial.holders
