use Rattle.ov_recoat.proofs.Bytes.{files_keep_length, files_recoat}
use Rattle.ov_recoat.proofs.laws.files_are_recoated_by_bytes.Goals as goal

pub returns-clause-bytes : goal.returns-clause-bytes
returns-clause-bytes c = files_recoat

pub returns-clause-many : goal.returns-clause-many
returns-clause-many c = files_keep_length
