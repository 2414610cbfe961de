use Rattle.ov_model.proofs.Legality.{legal-after_all}
use Rattle.ov_model.proofs.machine.legal_histories_go_on.Goals as goal

pub returns : goal.returns
returns c = legal-after_all
