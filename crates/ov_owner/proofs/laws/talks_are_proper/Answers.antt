use Rattle.ov_owner.proofs.Proper.{talks_are_proper}
use Rattle.ov_owner.proofs.laws.talks_are_proper.Goals as goal

pub returns : goal.returns
returns c = talks_are_proper
