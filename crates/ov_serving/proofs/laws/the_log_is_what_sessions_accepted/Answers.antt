use Rattle.ov_serving.proofs.Accounting.{log_is_accepted}
use Rattle.ov_serving.proofs.laws.the_log_is_what_sessions_accepted.Goals as goal

pub returns : goal.returns
returns g c = log_is_accepted g.V.Answerer.tells g.L.Source.tells g.L.Sink.tells
