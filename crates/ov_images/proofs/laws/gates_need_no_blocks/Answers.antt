use Rattle.ov_images.proofs.Gates.{gates_need_no_blocks}
use Rattle.ov_images.proofs.laws.gates_need_no_blocks.Goals as goal

pub returns : goal.returns
returns c = gates_need_no_blocks
