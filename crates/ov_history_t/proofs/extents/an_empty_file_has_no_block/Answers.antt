use Rattle.ov_history_t.proofs.OneFile.{empty_file_has_no_block}
use Rattle.ov_history_t.proofs.extents.an_empty_file_has_no_block.Goals as goal

pub returns : goal.returns
returns c = empty_file_has_no_block
