use Rattle.std.proofs.Common.{ℕ, [], ◌<◌, get_or}
use Rattle.ov_base.specs.Names.{IsName}
use Rattle.ov_fields.proofs.known.known_each_name.Given as goal

abbrev pub invariant-loop-name : goal.invariant-loop-name
invariant-loop-name l = (k : ℕ) → k < l.name-index → IsName (get_or l.names k [])
