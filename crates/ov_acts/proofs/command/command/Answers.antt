use Rattle.ov_acts.proofs.Changing.{performed_by, told_by}
use Rattle.ov_acts.proofs.command.command.Goals as goal

pub returns-in-Some-clause-performs : goal.returns-in-Some-clause-performs
returns-in-Some-clause-performs g c =
    performed_by g.P.Peer.tells c.args.owner.now c.args.bytes.now c.in-Some.change
    c.args.peer.now c.change.new.peer c.change.result c.line_on_update.result
    c.change.ensures.runs c.line_on_update.ensures c.args.act.now c.in-Some.ensures.change

pub returns-in-Some-clause-told : goal.returns-in-Some-clause-told
returns-in-Some-clause-told g c = λ v is same.
    told_by c.args.owner.now c.args.bytes.now c.in-Some.change v
    (g.P.Peer.tells.serves c.change.new.peer) c.change.result c.line_on_update.result
    (c.change.ensures.told v is same) c.line_on_update.ensures c.args.act.now c.in-Some.ensures.change
