use Rattle.std.proofs.Common.{◌≡◌, ◌-◌}
use Rattle.ov_aes.specs.Cipher.{rounds}
use Rattle.ov_aes.proofs.rounds.encrypt.Given as goal

abbrev pub invariant-loop-round : goal.invariant-loop-round
invariant-loop-round l = l.s ≡ rounds l.w l.fn.input (l.round - 1)
