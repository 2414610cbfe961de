use Rattle.ov_session.specs.Links.{link}
use Rattle.ov_session.proofs.Replying.{exchanged}
use Rattle.ov_session.proofs.peer.exchange.Goals as goal

pub returns-in-Ok-clause-exchanges : goal.returns-in-Ok-clause-exchanges
returns-in-Ok-clause-exchanges g c =
    let tells = link g.L.Source.tells g.L.Sink.tells in
    exchanged (tells c.args.stream.now) (tells c.put_frame.new.stream) (tells c.take_frame.new.stream)
    c.args.request.now c.in-Ok.ensures.puts c.take_frame.new.reply.items c.take_frame.result
    c.take_frame.ensures.takes
