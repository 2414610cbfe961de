use Rattle.ov_serving.proofs.Telling.{first_are_of_it}
use Rattle.ov_serving.proofs.laws.first_passes_are_of_it.Goals as goal

pub returns : goal.returns
returns g c = first_are_of_it g.V.Answerer.tells
