use Rattle.ov_history_t.proofs.Damaged.{gate_comes_first}
use Rattle.ov_history_t.proofs.extents.the_gate_comes_before_first_blocks.Goals as goal

pub returns : goal.returns
returns c = gate_comes_first
