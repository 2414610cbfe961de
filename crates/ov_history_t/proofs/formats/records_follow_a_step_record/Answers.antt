use Rattle.ov_history_t.proofs.BothFormats.{records_follow_the_step}
use Rattle.ov_history_t.proofs.formats.records_follow_a_step_record.Goals as goal

pub returns : goal.returns
returns c = records_follow_the_step
