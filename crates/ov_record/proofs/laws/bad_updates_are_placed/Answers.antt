use Rattle.ov_record.proofs.UpdatePlaces.{bad_updates_are_placed}
use Rattle.ov_record.proofs.laws.bad_updates_are_placed.Goals as goal

pub returns : goal.returns
returns c = bad_updates_are_placed
