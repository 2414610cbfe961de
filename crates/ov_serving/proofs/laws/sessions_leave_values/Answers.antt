use Rattle.ov_serving.proofs.Together.{leave_values}
use Rattle.ov_serving.proofs.laws.sessions_leave_values.Goals as goal

pub returns : goal.returns
returns g c = leave_values g.V.Answerer.tells g.L.Source.tells g.L.Sink.tells
