use Rattle.ov_exposure.proofs.Publishing.{published_stays}
use Rattle.ov_exposure.proofs.exposure.what_was_published_stays.Goals as goal

pub returns : goal.returns
returns c = published_stays
