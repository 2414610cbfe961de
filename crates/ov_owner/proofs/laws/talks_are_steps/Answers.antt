use Rattle.ov_owner.proofs.Replying.{talks_are_steps}
use Rattle.ov_owner.proofs.laws.talks_are_steps.Goals as goal

pub returns : goal.returns
returns c = talks_are_steps
