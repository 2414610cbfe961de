use Rattle.ov_history_t.proofs.BothFormats.{first_format_is_kept, step_changes_nothing}
use Rattle.ov_history_t.proofs.formats.a_step_record_changes_nothing.Goals as goal

pub returns-clause-before : goal.returns-clause-before
returns-clause-before c = first_format_is_kept

pub returns-clause-behind : goal.returns-clause-behind
returns-clause-behind c = step_changes_nothing
