use Rattle.ov_history_t.proofs.Removed.{removed_blocks_are_free}
use Rattle.ov_history_t.proofs.extents.removed_blocks_are_free.Goals as goal

pub returns : goal.returns
returns c = removed_blocks_are_free
