use Rattle.ov_base.proofs.WordBits.{zeros}
use Rattle.ov_base.proofs.user_set.UserSet.empty.Goals as goal

pub returns : goal.returns
returns g c = zeros _
