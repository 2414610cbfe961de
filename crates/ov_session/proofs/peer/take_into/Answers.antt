use Rattle.ov_session.proofs.Filling.{fills_up, same_loan}
use Rattle.ov_session.proofs.peer.take_into.Goals as goal

pub returns-clause-fills : goal.returns-clause-fills
returns-clause-fills g c =
    let fill = c.fill.ensures in
    fills_up g.L.Source.tells g.L.Sink.tells g.met.L.Stream.take_leaves c.args.stream.now
    c.fill.new.source c.fill.new.buffer _ c.fill.result fill.long fill.taken fill.all fill.needed fill.cause

pub returns-clause-same : goal.returns-clause-same
returns-clause-same g c =
    same_loan g.L.Source.tells g.L.Sink.tells g.met.L.Stream.take_leaves _ _ _ c.args.stream.now
    c.fill.new.source c.fill.ensures.needed c.fill.ensures.same
