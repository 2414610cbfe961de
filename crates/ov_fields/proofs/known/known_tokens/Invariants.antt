use Rattle.std.proofs.Common.{ℕ, [], ◌<◌, get_or}
use Rattle.ov_fields.specs.Spelling.{IsToken}
use Rattle.ov_fields.proofs.known.known_tokens.Given as goal

abbrev pub invariant-loop-token : goal.invariant-loop-token
invariant-loop-token l = (k : ℕ) → k < l.token-index → IsToken (get_or l.tokens k (record { bytes = [] }))
