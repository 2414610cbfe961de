use Rattle.std.proofs.Common.{arith}
use Rattle.std.proofs.lemmas.Bool.Decides.{nat_tests}
use Rattle.std.proofs.lemmas.Grind.{common_steps}
use Rattle.ov_aes.specs.KeyExpansion.{temp_word}
use Rattle.ov_aes.proofs.key_schedule.temp_word.Goals as goal

pub returns-then-i-eq0 : goal.returns-then-i-eq0
unfolding temp_word
returns-then-i-eq0 c = grind (arith, common_steps, nat_tests)

pub returns-then-i-eq4 : goal.returns-then-i-eq4
unfolding temp_word
returns-then-i-eq4 c = grind (arith, common_steps, nat_tests)

pub returns-else-i-eq4 : goal.returns-else-i-eq4
unfolding temp_word
returns-else-i-eq4 c = grind (arith, common_steps, nat_tests)
