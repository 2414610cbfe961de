use Rattle.ov_thinning.proofs.Taken.{nothing_is_taken, taking_goes_on}
use Rattle.ov_thinning.proofs.thinning.takings_go_on.Goals as goal

pub returns : goal.returns
returns c = record { nothing = nothing_is_taken; goes_on = taking_goes_on }
