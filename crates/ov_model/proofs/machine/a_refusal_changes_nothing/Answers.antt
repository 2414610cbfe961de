use Rattle.ov_model.proofs.Steps.{a_refusal_changes_nothing}
use Rattle.ov_model.proofs.machine.a_refusal_changes_nothing.Goals as goal

pub returns : goal.returns
returns c = a_refusal_changes_nothing
