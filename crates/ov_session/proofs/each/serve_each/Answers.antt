use Rattle.ov_session.specs.Serving.{serves_alone}
use Rattle.ov_session.proofs.Doors.{more_served}
use Rattle.ov_session.proofs.each.serve_each.Goals as goal

pub loop-number-preserved : goal.loop-number-preserved
loop-number-preserved g c = record {
  so_far = more_served
      (serves_alone g.V.Answerer.tells g.D.Stream.Source.tells g.D.Stream.Sink.tells)
      c.args.value.now c.loop-number.value c.serve_next.new.value (g.D.Door.shows c.args.door.now)
      (g.D.Door.shows c.loop-number.door) (g.D.Door.shows c.serve_next.new.door) c.loop-number.number
      c.loop-number.invariant.so_far c.in-Served.ensures;
}
