use Rattle.ov_tidying.proofs.Unbegun.{other_ends}
use Rattle.ov_tidying.proofs.written.put_not_begun.Goals as goal

pub returns-in_default : goal.returns-in_default
returns-in_default g c = record {
  ends = other_ends c.args.fault c.in_default.not-Disk c.in_default.not-Memory _ _
      c.put_last.result c.put_last.ensures.ends;
  put = c.put_last.ensures.put;
}
