use Rattle.std.proofs.Common.{◌≡◌, ◌<◌, ◌*◌, ℕ, get_or, take, drop}
use Rattle.ov_base.specs.Sets.{set_of_bytes}
use Rattle.ov_base.proofs.user_set.words.read.Given as goal

abbrev pub invariant-loop-i : goal.invariant-loop-i
invariant-loop-i l = (k : ℕ) → k < l.i → get_or l.words k 0 ≡ set_of_bytes (take 8 (drop (8 * k) l.bytes))
