use Rattle.std.proofs.Common.{rules, ◌≡◌, ◌∙◌, ◌<◌, refl}
use Rattle.std.specs.Arc.{arc_value}
use Rattle.ov_serving.specs.Sessions.{serves_by_pass}
use Rattle.ov_serving.proofs.Going.{begun, closed_next, failed_next, freed, keeps_same, taken}
use Rattle.ov_serving.proofs.Standing.{all_out, is_at}
use Rattle.ov_serving.proofs.serving.serve_streams.Goals as goal

pub streams-init : goal.streams-init
streams-init g c =
    let answerer = g.V.Answerer.tells in
    let source = g.D.Stream.Source.tells in
    let sink = g.D.Stream.Sink.tells in
    record {
      goes = begun (serves_by_pass answerer source sink) (keeps_same answerer source sink)
          (arc_value c.args.common.now.shared.now) c.args.caller.now.free.items c.requires.passes
          (g.D.Door.shows c.args.door.now) c.requires.unused c.args.spawner.now
          c.args.caller.now.alone c.requires.none.0 c.requires.none.1 c.requires.own;
      room = refl;
    }

pub free_one-requires-clause-out : goal.free_one-requires-clause-out
free_one-requires-clause-out g c =
    let answerer = g.V.Answerer.tells in
    let source = g.D.Stream.Source.tells in
    let sink = g.D.Stream.Sink.tells in
    all_out (serves_by_pass answerer source sink)
    (arc_value c.args.common.now.shared.now) c.args.caller.now.free.items
    (g.D.Door.shows c.args.door.now) c.requires.unused c.streams.caller.free.items
    (g.D.Door.shows c.streams.door) c.streams.spawner c.streams.number
    c.streams.invariant.goes.stands

pub serve_next-requires-clause-at : goal.serve_next-requires-clause-at
serve_next-requires-clause-at g c κs long =
    let answerer = g.V.Answerer.tells in
    let source = g.D.Stream.Source.tells in
    let sink = g.D.Stream.Sink.tells in
    let shows = g.D.Door.shows in
    let one = serves_by_pass answerer source sink in
    let shared = arc_value c.args.common.now.shared.now in
    let passes = c.args.caller.now.free.items in
    let old = shows c.args.door.now in
    let free = c.free_one.new.free.items in
    let after = c.free_one.new.spawner in
    let so = freed one (keeps_same answerer source sink) shared passes c.requires.passes old
    c.requires.unused c.args.spawner.now c.streams.caller.free.items free (shows c.streams.door)
    (shows c.free_one.new.door) c.streams.spawner after c.streams.number c.streams.caller.alone
    c.streams.invariant.goes c.free_one.ensures.frees in
    is_at one shared passes old c.requires.unused free (shows c.free_one.new.door) after
    c.streams.number so.0.stands

pub serve_next-requires-clause-own : goal.serve_next-requires-clause-own
serve_next-requires-clause-own g c κs long =
    let answerer = g.V.Answerer.tells in
    let source = g.D.Stream.Source.tells in
    let sink = g.D.Stream.Sink.tells in
    let shows = g.D.Door.shows in
    let so = freed (serves_by_pass answerer source sink) (keeps_same answerer source sink)
    (arc_value c.args.common.now.shared.now) c.args.caller.now.free.items c.requires.passes
    (shows c.args.door.now) c.requires.unused c.args.spawner.now c.streams.caller.free.items
    c.free_one.new.free.items (shows c.streams.door) (shows c.free_one.new.door)
    c.streams.spawner c.free_one.new.spawner c.streams.number c.streams.caller.alone
    c.streams.invariant.goes c.free_one.ensures.frees in
    so.0.stands.own_free

pub returns-in-Closed-clause-served : goal.returns-in-Closed-clause-served
returns-in-Closed-clause-served g c =
    let answerer = g.V.Answerer.tells in
    let source = g.D.Stream.Source.tells in
    let sink = g.D.Stream.Sink.tells in
    let shows = g.D.Door.shows in
    let one = serves_by_pass answerer source sink in
    let keeps = keeps_same answerer source sink in
    let shared = arc_value c.args.common.now.shared.now in
    let passes = c.args.caller.now.free.items in
    let old = shows c.args.door.now in
    let free = c.free_one.new.free.items in
    let after = c.free_one.new.spawner in
    let so = freed one keeps shared passes c.requires.passes old
    c.requires.unused c.args.spawner.now c.streams.caller.free.items free (shows c.streams.door)
    (shows c.free_one.new.door) c.streams.spawner after c.streams.number c.streams.caller.alone
    c.streams.invariant.goes c.free_one.ensures.frees in
    let less : c.streams.number < c.args.sessions = search rules in
    closed_next one keeps shared passes c.requires.passes old c.requires.unused
    c.args.spawner.now free c.serve_next.new.caller.free.items (shows c.free_one.new.door)
    (shows c.serve_next.new.door) after c.serve_next.new.spawner c.args.sessions
    c.streams.number c.streams.caller.alone c.serve_next.new.caller.alone so.0 less
    c.in-Closed.ensures.takes

pub returns-in-Failed-clause-served : goal.returns-in-Failed-clause-served
returns-in-Failed-clause-served g c =
    let answerer = g.V.Answerer.tells in
    let source = g.D.Stream.Source.tells in
    let sink = g.D.Stream.Sink.tells in
    let shows = g.D.Door.shows in
    let one = serves_by_pass answerer source sink in
    let keeps = keeps_same answerer source sink in
    let shared = arc_value c.args.common.now.shared.now in
    let passes = c.args.caller.now.free.items in
    let old = shows c.args.door.now in
    let free = c.free_one.new.free.items in
    let after = c.free_one.new.spawner in
    let so = freed one keeps shared passes c.requires.passes old
    c.requires.unused c.args.spawner.now c.streams.caller.free.items free (shows c.streams.door)
    (shows c.free_one.new.door) c.streams.spawner after c.streams.number c.streams.caller.alone
    c.streams.invariant.goes c.free_one.ensures.frees in
    let less : c.streams.number < c.args.sessions = search rules in
    failed_next one keeps shared passes c.requires.passes old c.requires.unused
    c.args.spawner.now free c.serve_next.new.caller.free.items (shows c.free_one.new.door)
    (shows c.serve_next.new.door) after c.serve_next.new.spawner c.args.sessions
    c.streams.number c.streams.caller.alone c.serve_next.new.caller.alone so.0 less
    c.in-Failed.ensures.takes

pub streams-preserved : goal.streams-preserved
streams-preserved g c =
    let answerer = g.V.Answerer.tells in
    let source = g.D.Stream.Source.tells in
    let sink = g.D.Stream.Sink.tells in
    let shows = g.D.Door.shows in
    let one = serves_by_pass answerer source sink in
    let keeps = keeps_same answerer source sink in
    let shared = arc_value c.args.common.now.shared.now in
    let passes = c.args.caller.now.free.items in
    let old = shows c.args.door.now in
    let free = c.free_one.new.free.items in
    let after = c.free_one.new.spawner in
    let so = freed one keeps shared passes c.requires.passes old
    c.requires.unused c.args.spawner.now c.streams.caller.free.items free (shows c.streams.door)
    (shows c.free_one.new.door) c.streams.spawner after c.streams.number c.streams.caller.alone
    c.streams.invariant.goes c.free_one.ensures.frees in
    record {
      goes = taken one keeps shared passes c.requires.passes old c.requires.unused
          c.args.spawner.now free c.serve_next.new.caller.free.items (shows c.free_one.new.door)
          (shows c.serve_next.new.door) after c.serve_next.new.spawner c.streams.number
          c.streams.caller.alone c.serve_next.new.caller.alone so.0 c.in-Served.ensures.takes;
      room = c.serve_next.ensures.room ∙ c.free_one.ensures.room ∙ c.streams.invariant.room;
    }
