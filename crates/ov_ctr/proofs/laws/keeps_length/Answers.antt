use Rattle.ov_ctr.proofs.Pad.{length-xor_pad}
use Rattle.ov_ctr.proofs.laws.keeps_length.Goals as goal

pub returns : goal.returns
returns c = length-xor_pad
