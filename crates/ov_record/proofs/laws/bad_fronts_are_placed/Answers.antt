use Rattle.ov_record.proofs.BriefPlaces.{bad_fronts_are_placed}
use Rattle.ov_record.proofs.laws.bad_fronts_are_placed.Goals as goal

pub returns : goal.returns
returns c = bad_fronts_are_placed
