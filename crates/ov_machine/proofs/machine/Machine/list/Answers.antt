use Rattle.std.proofs.Common.{rules}
use Rattle.ov_machine.proofs.LentQuestions.{list_all, list_fault, list_keys}
use Rattle.ov_machine.proofs.machine.Machine.list.Goals as goal

pub names_reply-requires : goal.names_reply-requires
names_reply-requires g c =
    list_fault g.D.Disk.tells g.T.Sink.tells
    c.self.inside.owner c.new-peer.result c.self.inside.peer c.self.invariant (search rules)
    c.args.self.now c.self.view_is
    c.args.file c.list-told.ensures.form c.list-told.new.peer c.list-told.result c.list-told.ensures.asks

pub invariant_of-self : goal.invariant_of-self
invariant_of-self g c =
    list_keys g.D.Disk.tells g.T.Sink.tells
    c.self.inside.owner c.new-peer.result c.self.inside.peer c.self.invariant (search rules)
    c.args.self.now c.self.view_is
    c.args.file c.list-told.ensures.form c.list-told.new.peer c.list-told.result c.list-told.ensures.asks

pub returns : goal.returns
returns g c =
    list_all g.D.Disk.tells g.T.Sink.tells
    c.self.inside.owner c.new-peer.result c.self.inside.peer c.self.invariant (search rules)
    c.args.self.now c.self.view_is
    c.args.file c.list-told.ensures.form c.list-told.new.peer c.list-told.result c.list-told.ensures.asks c.args.trace.now _ c.names_reply.result (search rules) (search rules)
    c.list-told.ensures.cause c.names_reply.ensures
