use Rattle.std.proofs.Common.{arith}
use Rattle.ov_base.proofs.WordBytes.{read_words}
use Rattle.ov_base.proofs.user_set.words.read.Goals as goal

pub returns : goal.returns
returns c = read_words c.loop-i.words c.args.bytes.now (omega arith) (λ k h. c.loop-i.invariant k (omega arith))
