use Rattle.ov_owner.proofs.Leaving.{one_update_at_most}
use Rattle.ov_owner.proofs.laws.one_update_at_most.Goals as goal

pub returns : goal.returns
returns c = one_update_at_most
