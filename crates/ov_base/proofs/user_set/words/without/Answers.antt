use Rattle.std.proofs.Common.{arith}
use Rattle.ov_base.proofs.WordBits.{clear_bit}
use Rattle.ov_base.proofs.user_set.words.without.Goals as goal

pub returns : goal.returns
returns g c = clear_bit c.args.words.now c.fit.ensures c.args.user (omega arith)
