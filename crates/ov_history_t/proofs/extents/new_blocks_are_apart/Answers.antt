use Rattle.ov_history_t.proofs.ThreeFiles.{new_blocks_are_apart}
use Rattle.ov_history_t.proofs.extents.new_blocks_are_apart.Goals as goal

pub returns : goal.returns
returns c = new_blocks_are_apart
