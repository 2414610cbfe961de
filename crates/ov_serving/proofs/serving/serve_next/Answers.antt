use Rattle.std.proofs.Common.{rules, ◌≡◌, ◌∷◌, ◌++◌, [], subst}
use Rattle.ov_session.specs.Doors.{Doorway}
use Rattle.ov_serving.specs.Places.{Settles, gave}
use Rattle.ov_serving.specs.Sessions.{serves_by_pass}
use Rattle.ov_serving.proofs.serving.serve_next.Goals as goal

pub returns-in-Some-clause-takes : goal.returns-in-Some-clause-takes
returns-in-Some-clause-takes g c =
    let shows = g.D.Door.shows in
    let stream = c.in-Ok-Some.stream in
    let pass = c.in-Some.pass in
    let others = c.pop.new.self.items in
    let given : shows c.accept.new.self ≡ gave (shows c.args.door.now) stream = search rules in
    let popped : c.args.caller.now.free.items ≡ others ++ pass ∷ [] = search rules in
    let settled = c.settle.ensures.settles in (
      stream,
      pass,
      others,
      popped,
      subst (λ (d : Doorway g.row.D-Stream.Denot).
          Settles (serves_by_pass g.V.Answerer.tells g.D.Stream.Source.tells g.D.Stream.Sink.tells)
          c.args.number stream pass c.args.spawner.now c.settle.new.spawner d
          (shows c.settle.new.door) others c.settle.new.caller.free.items c.args.caller.now.alone
          c.settle.new.caller.alone) given settled,
    )
