use Rattle.std.proofs.Common.{arith}
use Rattle.ov_session.specs.Links.{link}
use Rattle.ov_session.proofs.Replying.{body_stops}
use Rattle.ov_session.proofs.peer.take_body.Goals as goal

pub returns-in-Err-clause-takes : goal.returns-in-Err-clause-takes
returns-in-Err-clause-takes g c =
    let tells = link g.L.Source.tells g.L.Sink.tells in
    let so_far = c.pieces.invariant in
    body_stops (tells c.args.stream.now) (tells c.pieces.stream) (tells c.take_piece.new.stream) c.args.wanted _
    c.pieces.reply.items c.take_piece.new.reply.items c.in-Err.fault c.requires.length
    (omega (arith, so_far.within, c.len-in-pieces.ensures)) so_far.reads c.in-Err.ensures.takes
