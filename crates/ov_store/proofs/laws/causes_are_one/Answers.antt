use Rattle.ov_store.proofs.Causes.{causes_are_one}
use Rattle.ov_store.proofs.laws.causes_are_one.Goals as goal

pub returns : goal.returns
returns c = causes_are_one
