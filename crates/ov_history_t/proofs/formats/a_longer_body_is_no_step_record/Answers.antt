use Rattle.ov_history_t.proofs.BothFormats.{longer_body_is_no_step}
use Rattle.ov_history_t.proofs.formats.a_longer_body_is_no_step_record.Goals as goal

pub returns : goal.returns
returns c = longer_body_is_no_step
