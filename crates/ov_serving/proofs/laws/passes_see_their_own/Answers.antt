use Rattle.ov_serving.proofs.Owning.{sees_its_own}
use Rattle.ov_serving.proofs.laws.passes_see_their_own.Goals as goal

pub returns : goal.returns
returns g c = sees_its_own g.V.Answerer.tells g.L.Source.tells g.L.Sink.tells
