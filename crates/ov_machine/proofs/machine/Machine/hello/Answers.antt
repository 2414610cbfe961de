use Rattle.std.proofs.Common.{rules}
use Rattle.ov_machine.proofs.LentQuestions.{hello_all, hello_fault, hello_keys}
use Rattle.ov_machine.proofs.machine.Machine.hello.Goals as goal

pub epoch_reply-requires : goal.epoch_reply-requires
epoch_reply-requires g c =
    hello_fault g.D.Disk.tells g.T.Sink.tells
    c.self.inside.owner c.new-peer.result c.self.inside.peer c.self.invariant (search rules)
    c.args.self.now c.self.view_is
    c.hello-told.ensures.form c.hello-told.new.peer c.hello-told.result c.hello-told.ensures.asks

pub invariant_of-self : goal.invariant_of-self
invariant_of-self g c =
    hello_keys g.D.Disk.tells g.T.Sink.tells
    c.self.inside.owner c.new-peer.result c.self.inside.peer c.self.invariant (search rules)
    c.args.self.now c.self.view_is
    c.hello-told.ensures.form c.hello-told.new.peer c.hello-told.result c.hello-told.ensures.asks

pub returns : goal.returns
returns g c =
    hello_all g.D.Disk.tells g.T.Sink.tells
    c.self.inside.owner c.new-peer.result c.self.inside.peer c.self.invariant (search rules)
    c.args.self.now c.self.view_is
    c.hello-told.ensures.form c.hello-told.new.peer c.hello-told.result c.hello-told.ensures.asks c.args.trace.now _ c.epoch_reply.result (search rules) (search rules)
    c.hello-told.ensures.cause c.epoch_reply.ensures
