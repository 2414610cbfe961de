use Rattle.ov_images.proofs.Keeping.{keeps_more}
use Rattle.ov_images.proofs.laws.keeping_goes_on.Goals as goal

pub returns : goal.returns
returns c = keeps_more
