use Rattle.ov_protocol.proofs.Untold.{hidden_answers, hidden_replies}
use Rattle.ov_protocol.proofs.laws.bytes_may_be_hidden.Goals as goal

pub returns : goal.returns
returns c = record { answers = hidden_answers; replies = hidden_replies }
