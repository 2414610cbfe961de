use Rattle.std.proofs.Common.{◌≡◌}
use Rattle.std.specs.Prelude.{vec_capacity}
use Rattle.std.specs.Arc.{arc_value}
use Rattle.ov_serving.specs.Places.{GoesOn}
use Rattle.ov_serving.specs.Sessions.{serves_by_pass}
use Rattle.ov_serving.proofs.serving.serve_streams.Given as goal

abbrev pub invariant-streams : goal.invariant-streams
invariant-streams g l = record {
  goes : GoesOn
      (serves_by_pass g.V.Answerer.tells g.D.Stream.Source.tells g.D.Stream.Sink.tells)
      (arc_value l.fn.common.shared.now) l.fn.caller.free.items l.caller.free.items
      (g.D.Door.shows l.fn.door) (g.D.Door.shows l.door) l.fn.spawner l.spawner l.number
      l.caller.alone;
  room : vec_capacity l.caller.free ≡ vec_capacity l.fn.caller.free;
}
