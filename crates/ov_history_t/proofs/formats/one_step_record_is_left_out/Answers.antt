use Rattle.ov_history_t.proofs.BothFormats.{one_step_is_left_out}
use Rattle.ov_history_t.proofs.formats.one_step_record_is_left_out.Goals as goal

pub returns : goal.returns
returns c = one_step_is_left_out
