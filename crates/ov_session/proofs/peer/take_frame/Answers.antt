use Rattle.ov_session.specs.Links.{link}
use Rattle.ov_session.proofs.Replying.{frame_behind}
use Rattle.ov_session.proofs.peer.take_frame.Goals as goal

pub returns-in-Ok-clause-takes : goal.returns-in-Ok-clause-takes
returns-in-Ok-clause-takes g c =
    let tells = link g.L.Source.tells g.L.Sink.tells in
    frame_behind (tells c.args.stream.now) (tells c.take_length.new.stream)
    (tells c.take_body.new.stream) c.in-Ok.wanted c.take_body.new.reply.items c.take_body.result
    c.in-Ok.ensures.takes.0 c.in-Ok.ensures.takes.1 c.take_body.ensures.takes
