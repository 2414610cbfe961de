use Rattle.ov_history_t.proofs.OneFile.{changed_byte_is_no_damage}
use Rattle.ov_history_t.proofs.extents.a_changed_byte_behind_a_file_is_no_damage.Goals as goal

pub returns : goal.returns
returns c = changed_byte_is_no_damage
