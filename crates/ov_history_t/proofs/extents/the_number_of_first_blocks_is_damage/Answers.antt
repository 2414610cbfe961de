use Rattle.ov_history_t.proofs.Damaged.{first_is_left_over, first_is_missing}
use Rattle.ov_history_t.proofs.extents.the_number_of_first_blocks_is_damage.Goals as goal

pub returns-clause-missing : goal.returns-clause-missing
returns-clause-missing c = first_is_missing

pub returns-clause-left_over : goal.returns-clause-left_over
returns-clause-left_over c = first_is_left_over
