use Rattle.std.proofs.Common.{◌∙◌, sym}
use Rattle.ov_scripting.proofs.Answered.{greets_so}
use Rattle.ov_scripting.proofs.scripting.greet.Goals as goal

pub returns-in-Ok-clause-greets : goal.returns-in-Ok-clause-greets
returns-in-Ok-clause-greets g c =
    greets_so g.P.Peer.tells c.args.masters.now c.new-owner.result
    (g.I.Source.tells.left c.args.input.now) c.args.peer.now c.hello.new.peer
    c.answer_script.new.peer (g.O.Sink.tells.written c.args.out.now)
    (g.O.Sink.tells.written c.answer_script.new.out) c.answer_script.result c.hello.result
    c.new-owner.ensures c.hello.ensures.asks (sym c.admitted.ensures ∙ c.in-Ok.is)
    c.answer_script.ensures.answers
