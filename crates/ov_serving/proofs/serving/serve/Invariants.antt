use Rattle.std.proofs.Common.{◌≡◌, length}
use Rattle.std.specs.Prelude.{vec_capacity}
use Rattle.std.specs.Arc.{arc_value}
use Rattle.ov_serving.specs.Places.{HasServed}
use Rattle.ov_serving.specs.Sessions.{serves_by_pass}
use Rattle.ov_serving.proofs.serving.serve.Given as goal

abbrev pub invariant-ending : goal.invariant-ending
invariant-ending g l = record {
  served : HasServed
      (serves_by_pass g.V.Answerer.tells g.D.Stream.Source.tells g.D.Stream.Sink.tells)
      (arc_value l.fn.shared) l.fn.passes.items l.caller.free.items
      (g.D.Door.shows l.fn.door) (g.D.Door.shows l.door) l.fn.spawner l.spawner l.fn.sessions
      l.served l.caller.alone l.door_failed;
  room : vec_capacity l.caller.free ≡ vec_capacity l.fn.passes;
}

abbrev pub decreases-ending : goal.decreases-ending
decreases-ending g l = length l.spawner.started
