use Rattle.ov_session.proofs.Inputs.{end_one_way}
use Rattle.ov_session.proofs.laws.inputs_end_one_way.Goals as goal

pub returns : goal.returns
returns c = end_one_way
