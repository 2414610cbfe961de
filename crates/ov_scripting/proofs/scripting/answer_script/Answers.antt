use Rattle.ov_scripting.proofs.Answered.{halts_over}
use Rattle.ov_scripting.proofs.scripting.answer_script.Goals as goal

pub returns-clause-answers : goal.returns-clause-answers
returns-clause-answers g c = (
  c.answer_all-ended.result,
  g.O.Sink.tells.written c.answer_all-ended.new.out,
  halts_over g.P.Peer.tells c.args.owner.now (g.I.Source.tells.left c.args.input.now) _ _ _ _
      c.answer_all-ended.result
      (rw c.over-script.ensures at c.answer_all-ended.ensures.halts),
  c.finish.ensures.finishes,
)
