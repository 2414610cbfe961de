use Rattle.ov_index.proofs.AgreementLaws.{answers_alike}
use Rattle.ov_index.proofs.agreement.graphs_answer_alike.Goals as goal

pub returns : goal.returns
returns g c = answers_alike _ _ _ c.requires
