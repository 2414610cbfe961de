use Rattle.std.proofs.Common.{rules, subst, sym}
use Rattle.ov_session.specs.Doors.{IsOut}
use Rattle.ov_serving.proofs.Standing.{ended_out, ended_room}
use Rattle.ov_serving.specs.Sessions.{serves_by_pass}
use Rattle.ov_serving.proofs.serving.finish_one.Goals as goal

pub take_back-requires-clause-out : goal.take_back-requires-clause-out
take_back-requires-clause-out g c =
    ended_out (serves_by_pass g.V.Answerer.tells g.D.Stream.Source.tells g.D.Stream.Sink.tells)
    (g.D.Door.shows c.args.door.now) c.args.spawner.now c.finish.new.spawner c.in-Some.ended
    c.in-Some.ensures c.requires.out

pub take_back-requires-clause-room : goal.take_back-requires-clause-room
take_back-requires-clause-room g c =
    ended_room (serves_by_pass g.V.Answerer.tells g.D.Stream.Source.tells g.D.Stream.Sink.tells)
    c.args.spawner.now c.finish.new.spawner c.in-Some.ended c.in-Some.ensures _ _ c.requires.room
