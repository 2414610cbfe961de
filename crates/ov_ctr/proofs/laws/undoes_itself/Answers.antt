use Rattle.ov_ctr.proofs.Pad.{xor_pad-xor_pad}
use Rattle.ov_ctr.proofs.laws.undoes_itself.Goals as goal

pub returns : goal.returns
returns c = xor_pad-xor_pad
