use Rattle.ov_state.proofs.PartPlaces.{parts_stand_at_their_place}
use Rattle.ov_state.proofs.places.parts_stand_at_their_place.Goals as goal

pub returns : goal.returns
returns c = parts_stand_at_their_place
