use Rattle.ov_history_t.proofs.BothFormats.{step_changes_the_form}
use Rattle.ov_history_t.proofs.formats.a_step_record_changes_the_form.Goals as goal

pub returns : goal.returns
returns c = step_changes_the_form
