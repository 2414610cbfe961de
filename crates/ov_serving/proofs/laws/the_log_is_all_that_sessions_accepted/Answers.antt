use Rattle.ov_serving.proofs.Together.{log_is_all}
use Rattle.ov_serving.proofs.laws.the_log_is_all_that_sessions_accepted.Goals as goal

pub returns : goal.returns
returns g c = log_is_all g.V.Answerer.tells g.L.Source.tells g.L.Sink.tells
