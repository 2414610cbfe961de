use Rattle.ov_wire.proofs.RequestPlaces.{request_place}
use Rattle.ov_wire.proofs.laws.bad_requests_are_placed.Goals as goal

pub returns : goal.returns
returns c = request_place
