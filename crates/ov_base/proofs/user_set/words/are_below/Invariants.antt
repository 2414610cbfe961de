use Rattle.std.proofs.Common.{ℕ, ◌<◌, ◌*◌}
use Rattle.ov_base.specs.Sets.{Has}
use Rattle.ov_base.specs.Words.{set_of_words}
use Rattle.ov_base.proofs.user_set.words.are_below.Given as goal

abbrev pub invariant-loop-i : goal.invariant-loop-i
invariant-loop-i l = (user : ℕ) → user < 64 * l.i → Has (set_of_words l.words) user → user < l.limit
