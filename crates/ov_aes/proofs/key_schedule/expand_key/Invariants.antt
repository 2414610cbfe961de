use Rattle.std.proofs.Common.{◌≡◌, ◌-◌, length, take}
use Rattle.ov_aes.specs.KeyExpansion.{words_to}
use Rattle.ov_aes.proofs.key_schedule.expand_key.Given as goal

abbrev pub invariant-loop-i : goal.invariant-loop-i
invariant-loop-i l = (length l.words ≡ 60) × (take l.i l.words ≡ words_to l.key (l.i - 8))
