use Rattle.ov_record.proofs.BriefPlaces.{bad_records_are_placed}
use Rattle.ov_record.proofs.laws.bad_records_are_placed.Goals as goal

pub returns : goal.returns
returns c = bad_records_are_placed
