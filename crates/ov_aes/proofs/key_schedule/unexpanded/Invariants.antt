use Rattle.std.proofs.Common.{◌≡◌, length, take}
use Rattle.ov_aes.specs.KeyExpansion.{key_words}
use Rattle.ov_aes.proofs.key_schedule.unexpanded.Given as goal

abbrev pub invariant-loop-n : goal.invariant-loop-n
invariant-loop-n l = (length l.words ≡ 60) × (take l.n l.words ≡ key_words l.key l.n)
