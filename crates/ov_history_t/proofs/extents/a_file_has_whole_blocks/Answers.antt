use Rattle.ov_history_t.proofs.OneFile.{file_has_whole_blocks}
use Rattle.ov_history_t.proofs.extents.a_file_has_whole_blocks.Goals as goal

pub returns : goal.returns
returns c = file_has_whole_blocks
