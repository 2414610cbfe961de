use Rattle.ov_history_t.proofs.Damaged.{blocks_in_use_are_damage}
use Rattle.ov_history_t.proofs.extents.blocks_in_use_are_damage.Goals as goal

pub returns : goal.returns
returns c = blocks_in_use_are_damage
