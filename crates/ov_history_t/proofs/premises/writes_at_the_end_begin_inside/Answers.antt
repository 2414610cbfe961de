use Rattle.std.proofs.Common.{arith}
use Rattle.ov_history_t.proofs.premises.writes_at_the_end_begin_inside.Goals as goal

pub returns : goal.returns
returns c = λ area i count. (omega arith, tt)
