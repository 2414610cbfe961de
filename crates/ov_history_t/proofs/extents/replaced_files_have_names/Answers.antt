use Rattle.ov_history_t.proofs.Replaced.{replaced_files_have_names}
use Rattle.ov_history_t.proofs.extents.replaced_files_have_names.Goals as goal

pub returns : goal.returns
returns c = replaced_files_have_names
