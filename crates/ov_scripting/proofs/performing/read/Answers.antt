use Rattle.ov_scripting.proofs.Performed.{read_does, rose_on, unread_does}
use Rattle.ov_scripting.proofs.performing.read.Goals as goal

pub returns-in-Ok-clause-does : goal.returns-in-Ok-clause-does
returns-in-Ok-clause-does g c =
    let faults = g.P.Peer.tells.faults in
    read_does g.P.Peer.tells c.args.owner.now c.args.user c.args.file c.args.peer.now
    c.client.new.peer c.fetch-found.new.peer c.in-Ok.client c.fetch-found.result
    c.read_reply.result c.in-Ok.ensures.asks c.in-Ok.ensures.complete c.fetch-found.ensures.talk
    c.fetch-found.ensures.complete
    (rose_on (faults c.args.peer.now) (faults c.client.new.peer)
    (faults c.fetch-found.new.peer) c.in-Ok.ensures.cause.later)
    c.read_reply.ensures

pub returns-in-Err-clause-does : goal.returns-in-Err-clause-does
returns-in-Err-clause-does g c =
    unread_does g.P.Peer.tells c.args.owner.now c.args.user c.args.file c.args.peer.now
    c.client.new.peer c.in-Err.fault c.fault_reply.result c.in-Err.ensures.asks
    c.in-Err.ensures.complete c.fault_reply.ensures
