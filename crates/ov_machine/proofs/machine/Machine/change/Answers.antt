use Rattle.std.proofs.Common.{rules, refl, subst}
use Rattle.ov_store.specs.Opened.{Serves}
use Rattle.ov_owner.specs.Changes.{command_of, errand_of}
use Rattle.ov_owner.proofs.Owning.{errand_for}
use Rattle.ov_machine.proofs.Lent.{change_all, change_fault, change_keys}
use Rattle.ov_machine.proofs.machine.Machine.change.Goals as goal

pub change_reply-requires : goal.change_reply-requires
change_reply-requires g c =
    let base = c.self.inside.owner.base in
    change_fault g.D.Disk.tells g.T.Sink.tells
    c.self.inside.owner (command_of c.args.change.now) (errand_of base c.args.change.now)
    (errand_for base c.args.change.now) c.new-peer.result
    c.change-made.new.peer c.change-made.result c.change-made.ensures.runs c.self.inside.peer
    c.change-made.new.peer.peer.now c.self.invariant (search rules)
    c.known.ensures.0
    (subst (Serves g.D.Disk.tells c.known.ensures.0) c.server.ensures c.known.ensures.1)

pub invariant_of-self : goal.invariant_of-self
invariant_of-self g c =
    let base = c.self.inside.owner.base in
    change_keys g.D.Disk.tells g.T.Sink.tells
    c.self.inside.owner (command_of c.args.change.now) (errand_of base c.args.change.now)
    (errand_for base c.args.change.now) c.new-peer.result
    c.change-made.new.peer c.change-made.result c.change-made.ensures.runs c.self.inside.peer
    c.change-made.new.peer.peer.now c.self.invariant (search rules) refl

pub returns : goal.returns
returns g c =
    let base = c.self.inside.owner.base in
    change_all g.D.Disk.tells g.T.Sink.tells
    c.self.inside.owner (command_of c.args.change.now) (errand_of base c.args.change.now)
    (errand_for base c.args.change.now) c.new-peer.result
    c.change-made.new.peer c.change-made.result c.change-made.ensures.runs c.self.inside.peer
    c.change-made.new.peer.peer.now c.self.invariant (search rules)
    c.known.ensures.0
    (subst (Serves g.D.Disk.tells c.known.ensures.0) c.server.ensures c.known.ensures.1)
    c.args.self.now c.self.view_is c.requires.healthy c.args.trace.now _ c.change_reply.result refl
    (search rules) (search rules) c.change-made.ensures.cause c.change_reply.ensures
