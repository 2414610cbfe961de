use Rattle.ov_exposure.proofs.FirstMoments.{exposed_is_readable, exposed_once}
use Rattle.ov_exposure.proofs.exposure.what_is_exposed_can_be_read.Goals as goal

pub returns : goal.returns
returns c = record { readable = exposed_is_readable; once = exposed_once }
