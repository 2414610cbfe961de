use Rattle.ov_wire.proofs.AnswerForms.{read_alike}
use Rattle.ov_wire.proofs.laws.answers_are_read_alike.Goals as goal

pub returns : goal.returns
returns c = read_alike
