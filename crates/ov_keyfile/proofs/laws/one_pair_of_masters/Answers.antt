use Rattle.ov_keyfile.proofs.Parts.{one_pair}
use Rattle.ov_keyfile.proofs.laws.one_pair_of_masters.Goals as goal

pub returns : goal.returns
returns c file base surface other another one two = one_pair file base surface other another one two
