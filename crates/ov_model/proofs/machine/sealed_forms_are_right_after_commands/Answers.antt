use Rattle.ov_model.proofs.Since.{sealed_forms_are_right}
use Rattle.ov_model.proofs.machine.sealed_forms_are_right_after_commands.Goals as goal

pub returns : goal.returns
returns c = sealed_forms_are_right
