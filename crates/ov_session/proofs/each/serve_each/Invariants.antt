use Rattle.ov_session.specs.Serving.{serves_alone}
use Rattle.ov_session.specs.Turns.{ServesSome}
use Rattle.ov_session.proofs.each.serve_each.Given as goal

abbrev pub invariant-loop-number : goal.invariant-loop-number
invariant-loop-number g l = record {
  so_far : ServesSome
      (serves_alone g.V.Answerer.tells g.D.Stream.Source.tells g.D.Stream.Sink.tells)
      l.fn.value l.value (g.D.Door.shows l.fn.door) (g.D.Door.shows l.door) l.number;
}
