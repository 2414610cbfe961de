use Rattle.ov_history_t.proofs.Removed.{removed_files_are_gone}
use Rattle.ov_history_t.proofs.extents.removed_files_are_gone.Goals as goal

pub returns : goal.returns
returns c = removed_files_are_gone
