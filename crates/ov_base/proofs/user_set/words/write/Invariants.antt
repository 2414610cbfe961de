use Rattle.std.proofs.Common.{◌≡◌, ◌<◌, ◌*◌, ℕ, length, get_or}
use Rattle.ov_base.specs.Sets.{bytes_of}
use Rattle.ov_base.specs.Words.{set_of_words}
use Rattle.ov_base.proofs.user_set.words.write.Given as goal

abbrev pub invariant-loop-i : goal.invariant-loop-i
invariant-loop-i l = (k : ℕ) → k < l.i → get_or l.out k 0 ≡ get_or (bytes_of (8 * length l.words) (set_of_words l.words)) k 0
