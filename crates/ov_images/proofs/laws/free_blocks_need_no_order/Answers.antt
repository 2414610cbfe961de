use Rattle.ov_images.proofs.Order.{free_needs_no_order}
use Rattle.ov_images.proofs.laws.free_blocks_need_no_order.Goals as goal

pub returns : goal.returns
returns c = free_needs_no_order
