use Rattle.std.proofs.Common.{rules, ◌∙◌}
use Rattle.std.specs.Arc.{arc_value}
use Rattle.ov_serving.specs.Sessions.{serves_by_pass}
use Rattle.ov_serving.proofs.Going.{ended_all, keeps_same, one_finished}
use Rattle.ov_serving.proofs.Standing.{all_out}
use Rattle.ov_serving.proofs.serving.serve.Goals as goal

pub finish_one-requires-clause-out : goal.finish_one-requires-clause-out
finish_one-requires-clause-out g c =
    all_out
    (serves_by_pass g.V.Answerer.tells g.D.Stream.Source.tells g.D.Stream.Sink.tells)
    (arc_value c.args.shared.now) c.args.passes.items (g.D.Door.shows c.args.door.now)
    c.requires.unused c.ending.caller.free.items (g.D.Door.shows c.ending.door) c.ending.spawner
    c.serve_streams-served.result.0 c.ending.invariant.served.stands

pub ending-preserved : goal.ending-preserved
ending-preserved g c =
    let answerer = g.V.Answerer.tells in
    let source = g.D.Stream.Source.tells in
    let sink = g.D.Stream.Sink.tells in
    let shows = g.D.Door.shows in
    record {
      served = one_finished (serves_by_pass answerer source sink)
          (keeps_same answerer source sink) (arc_value c.args.shared.now) c.args.passes.items
          c.requires.passes (shows c.args.door.now) c.requires.unused c.args.spawner.now
          c.ending.caller.free.items c.finish_one.new.free.items (shows c.ending.door)
          (shows c.finish_one.new.door) c.ending.spawner c.finish_one.new.spawner
          c.args.sessions c.serve_streams-served.result.0 c.ending.caller.alone
          c.serve_streams-served.result.1 c.ending.invariant.served c.ending-test.ensures.ends;
      room = c.finish_one.ensures.room ∙ c.ending.invariant.room;
    }

pub returns-clause-serves : goal.returns-clause-serves
returns-clause-serves g c =
    let answerer = g.V.Answerer.tells in
    let source = g.D.Stream.Source.tells in
    let sink = g.D.Stream.Sink.tells in
    let shows = g.D.Door.shows in
    ended_all (serves_by_pass answerer source sink) (keeps_same answerer source sink)
    (arc_value c.args.shared.now) c.args.passes.items c.requires.passes
    (shows c.args.door.now) c.requires.unused c.args.spawner.now c.ending.caller.free.items
    c.finish_one.new.free.items (shows c.ending.door) (shows c.finish_one.new.door)
    c.ending.spawner c.finish_one.new.spawner c.args.sessions
    c.serve_streams-served.result.0 c.ending.caller.alone c.serve_streams-served.result.1
    c.ending.invariant.served c.ending-test.ensures.ends
