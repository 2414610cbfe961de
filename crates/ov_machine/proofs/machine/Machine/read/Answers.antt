use Rattle.std.proofs.Common.{rules}
use Rattle.ov_machine.proofs.LentQuestions.{found_all, found_fault, found_keys}
use Rattle.ov_machine.proofs.machine.Machine.read.Goals as goal

pub found_reply-requires : goal.found_reply-requires
found_reply-requires g c =
    found_fault g.D.Disk.tells g.T.Sink.tells
    c.self.inside.owner c.new-peer.result c.self.inside.peer c.self.invariant (search rules)
    c.args.self.now c.self.view_is
    c.args.user c.args.file c.read-found.ensures.form c.read-found.new.peer c.requires.healthy
    c.read-found.result c.read-found.ensures.reads

pub invariant_of-self : goal.invariant_of-self
invariant_of-self g c =
    found_keys g.D.Disk.tells g.T.Sink.tells
    c.self.inside.owner c.new-peer.result c.self.inside.peer c.self.invariant (search rules)
    c.args.self.now c.self.view_is
    c.args.user c.args.file c.read-found.ensures.form c.read-found.new.peer c.requires.healthy
    c.read-found.result c.read-found.ensures.reads

pub returns : goal.returns
returns g c =
    found_all g.D.Disk.tells g.T.Sink.tells
    c.self.inside.owner c.new-peer.result c.self.inside.peer c.self.invariant (search rules)
    c.args.self.now c.self.view_is
    c.args.user c.args.file c.read-found.ensures.form c.read-found.new.peer c.requires.healthy
    c.read-found.result c.args.trace.now _ c.found_reply.result
    c.read-found.ensures.reads (search rules) (search rules) c.read-found.ensures.cause c.found_reply.ensures
