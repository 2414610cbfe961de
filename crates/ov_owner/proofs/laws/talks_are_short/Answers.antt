use Rattle.ov_owner.proofs.Shortness.{talks_are_short}
use Rattle.ov_owner.proofs.laws.talks_are_short.Goals as goal

pub returns : goal.returns
returns c = talks_are_short
