use Rattle.ov_history_t.proofs.Replaced.{old_blocks_are_in_use, replaced_blocks_are_free}
use Rattle.ov_history_t.proofs.extents.replaced_blocks_are_free.Goals as goal

pub returns-clause-free : goal.returns-clause-free
returns-clause-free c = replaced_blocks_are_free

pub returns-clause-old : goal.returns-clause-old
returns-clause-old c = old_blocks_are_in_use
