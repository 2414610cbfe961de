use Rattle.std.proofs.Common.{rules, add-zero}
use Rattle.ov_aes.specs.Cipher.{full_round}
use Rattle.ov_aes.proofs.rounds.full_round.Goals as goal

pub returns : goal.returns
unfolding full_round
returns c = simp add-zero (search rules)
