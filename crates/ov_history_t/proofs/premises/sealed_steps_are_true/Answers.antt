use Rattle.std.proofs.Common.{refl}
use Rattle.ov_history_t.proofs.premises.sealed_steps_are_true.Goals as goal

pub returns : goal.returns
returns c = λ base surface from between to. (refl, (refl, tt))
