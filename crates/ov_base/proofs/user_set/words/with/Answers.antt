use Rattle.std.proofs.Common.{arith}
use Rattle.ov_base.proofs.WordBits.{set_bit}
use Rattle.ov_base.proofs.user_set.words.with.Goals as goal

pub returns : goal.returns
returns g c = set_bit c.args.words.now c.fit.ensures c.args.user (omega arith)
