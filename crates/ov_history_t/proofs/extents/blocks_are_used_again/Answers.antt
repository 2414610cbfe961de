use Rattle.ov_history_t.proofs.UsedAgain.{blocks_are_used_again}
use Rattle.ov_history_t.proofs.extents.blocks_are_used_again.Goals as goal

pub returns : goal.returns
returns c = blocks_are_used_again
