use Rattle.ov_images.proofs.Bytes.{extents_tell_bytes}
use Rattle.ov_images.proofs.Keeping.{keeps_same}
use Rattle.ov_images.proofs.laws.same_extents_keep_the_same.Goals as goal

pub returns-clause-same : goal.returns-clause-same
returns-clause-same c = keeps_same

pub returns-clause-bytes : goal.returns-clause-bytes
returns-clause-bytes c = extents_tell_bytes
