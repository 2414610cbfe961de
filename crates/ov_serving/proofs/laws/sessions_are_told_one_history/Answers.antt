use Rattle.ov_serving.proofs.Telling.{told_one_history}
use Rattle.ov_serving.proofs.laws.sessions_are_told_one_history.Goals as goal

pub returns : goal.returns
returns g c = told_one_history g.V.Answerer.tells g.L.Source.tells g.L.Sink.tells
