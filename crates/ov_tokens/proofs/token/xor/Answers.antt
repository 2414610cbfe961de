use Rattle.std.proofs.Common.{arith}
use Rattle.ov_tokens.proofs.XorLemmas.{xored_by_elements}
use Rattle.ov_tokens.proofs.token.xor.Goals as goal

pub returns : goal.returns
returns c =
    xored_by_elements c.args.bytes.now c.args.others.now c.loop-i.both c.loop-i.i
    (omega arith) (omega arith) (omega arith) c.loop-i.invariant.xored
