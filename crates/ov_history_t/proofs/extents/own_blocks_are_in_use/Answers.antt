use Rattle.ov_history_t.proofs.UsedAgain.{own_blocks_are_in_use}
use Rattle.ov_history_t.proofs.extents.own_blocks_are_in_use.Goals as goal

pub returns : goal.returns
returns c = own_blocks_are_in_use
