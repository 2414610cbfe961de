use Rattle.ov_wire.proofs.AnswerPlaces.{answer_place}
use Rattle.ov_wire.proofs.laws.bad_answers_are_placed.Goals as goal

pub returns : goal.returns
returns c = answer_place
