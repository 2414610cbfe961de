use Rattle.std.proofs.Common.{◌∙◌}
use Rattle.ov_scripting.proofs.Answered.{bad_finishes}
use Rattle.ov_scripting.proofs.finishing.finish.Goals as goal

pub returns-in-Ok-bad_line-clause-finishes : goal.returns-in-Ok-bad_line-clause-finishes
returns-in-Ok-bad_line-clause-finishes g c =
    bad_finishes c.args.ended c.put-in-Ok-bad_line.result c.in-BadLine.number
    c.deref-in-Ok-bad_line.result.now (g.O.Sink.tells.written c.args.out.now)
    (g.O.Sink.tells.written c.put-in-Ok-bad_line.new.out) c.in-BadLine.is
    (c.deref-in-Ok-bad_line.ensures.value ∙ c.in-Ok-bad_line.ensures) c.put-in-Ok-bad_line.ensures.puts
