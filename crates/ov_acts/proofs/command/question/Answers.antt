use Rattle.std.proofs.Common.{subst, sym}
use Rattle.ov_acts.proofs.Replies.{keys_told}
use Rattle.ov_acts.specs.Machine.{CommandsAsMachine}
use Rattle.ov_acts.specs.declared.job.Act.{Act}
use Rattle.ov_acts.proofs.command.question.Goals as goal

pub returns-in-Key-clause-told : goal.returns-in-Key-clause-told
returns-in-Key-clause-told g c = λ bytes v is.
    let Then = g.P.Peer.tells.serves c.client.new.peer in
    subst (λ (act : Act). CommandsAsMachine c.args.owner.now act bytes v Then
    c.line_on_client.result) (sym c.in-Key.is)
    (keys_told c.args.owner.now v Then c.in-Key.user c.client.result c.line_on_client.result
    (c.client.ensures.told v is) c.line_on_client.ensures)
