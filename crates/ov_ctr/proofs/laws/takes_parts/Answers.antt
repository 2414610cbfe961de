use Rattle.ov_ctr.proofs.Pad.{xor_pad-append}
use Rattle.ov_ctr.proofs.laws.takes_parts.Goals as goal

pub returns : goal.returns
returns c = xor_pad-append
