use Rattle.std.proofs.Common.{◌≡◌, ◌<◌, ◌≤◌, [], List, ℕ, length, min, ◌+◌, subst, sym, arith}
use Rattle.std.proofs.lemmas.Grind.{common_steps}
use Rattle.ov_wire.specs.Frames.{Feeds}
use Rattle.ov_session.specs.Ends.{Serves}
use Rattle.ov_session.specs.Gates.{gated}
use Rattle.ov_session.specs.Links.{link}
use Rattle.ov_session.specs.Steps.{SessionGoesOn}
use Rattle.ov_session.specs.Reading.{Reads}
use Rattle.ov_session.proofs.Going.{ends_at_end, ends_reading, goes_on, stops_so}
use Rattle.ov_session.proofs.Replying.{reads_none, took_none}
use Rattle.ov_session.proofs.one.read_on.Goals as goal

pub returns-in-Err-clause-goes : goal.returns-in-Err-clause-goes
returns-in-Err-clause-goes g c a old so_far =
    let desk = c.args.desk.now in
    let asks = gated g.A.Asker.tells (g.G.Gate.was_told desk.gate.now desk.session g.row.A.Denot) in
    let here : g.row.A.Denot × ℕ = (c.args.asker.now, c.args.reading.now.asked) in
    let tells = link g.L.Source.tells g.L.Sink.tells in
    let leaves = g.met.L.Stream.take_leaves c.args.stream.now c.take.new.self c.in-Err.ensures.step in
    ends_reading asks a here old (tells c.args.stream.now)
    c.args.reading.now.decoder c.args.reading.now.taken so_far (tells c.take.new.self)
    (reads_none (tells c.args.stream.now) (tells c.take.new.self) c.in-Err.ensures.bytes leaves.bytes
    leaves.faults c.in-Err.ensures.cause.later)
    c.in-Err.ensures.cause.failed

pub returns-then-count-eq0-clause-goes : goal.returns-then-count-eq0-clause-goes
returns-then-count-eq0-clause-goes g c a old so_far =
    let desk = c.args.desk.now in
    let asks = gated g.A.Asker.tells (g.G.Gate.was_told desk.gate.now desk.session g.row.A.Denot) in
    let here : g.row.A.Denot × ℕ = (c.args.asker.now, c.args.reading.now.asked) in
    let tells = link g.L.Source.tells g.L.Sink.tells in
    let leaves = g.met.L.Stream.take_leaves c.args.stream.now c.take.new.self c.in-Ok.ensures.step in
    let some : 0 < length c.take.new.buf = grind (arith, common_steps) in
    ends_at_end asks a here old (tells c.args.stream.now)
    c.args.reading.now.decoder c.args.reading.now.taken so_far (tells c.take.new.self)
    (took_none (tells c.args.stream.now) (tells c.take.new.self) c.take.new.buf c.in-Ok.count
    c.if-count-eq0.true (record {
      read = c.in-Ok.ensures.bytes.0;
      written = leaves.bytes;
      writes = leaves.faults;
      later = c.in-Ok.ensures.cause.later;
    }))
    (c.in-Ok.ensures.bytes.1 c.if-count-eq0.true some) c.at_end.result c.at_end.ensures

pub returns-in-Ok-answer_each-clause-goes : goal.returns-in-Ok-answer_each-clause-goes
returns-in-Ok-answer_each-clause-goes g c a old so_far =
    let desk = c.args.desk.now in
    let asks = gated g.A.Asker.tells (g.G.Gate.was_told desk.gate.now desk.session g.row.A.Denot) in
    let here : g.row.A.Denot × ℕ = (c.args.asker.now, c.args.reading.now.asked) in
    let tells = link g.L.Source.tells g.L.Sink.tells in
    let leaves = g.met.L.Stream.take_leaves c.args.stream.now c.take.new.self c.in-Ok.ensures.step in
    let after : g.row.A.Denot × ℕ = (c.answer_each.new.asker, c.answer_each.new.asked) in
    let piece : List ℕ = c.split_at.result.0.now in
    let d = c.args.reading.now.decoder in
    let d' = c.feed-fed.new.self in
    let reads : Reads (tells c.args.stream.now) (tells c.take.new.self) piece =
    subst (Reads (tells c.args.stream.now) (tells c.take.new.self)) (sym c.split_at.ensures.front) (record {
      read = c.in-Ok.ensures.bytes.0;
      written = leaves.bytes;
      writes = leaves.faults;
      later = c.in-Ok.ensures.cause.later;
    }) in
    let most : length piece ≤ 8192 = grind (arith, common_steps) in
    let none : Feeds d d' piece [] c.feed-fed.new.frames.items c.feed-fed.result =
    subst (λ (l : List (List ℕ)). Feeds d d' piece l c.feed-fed.new.frames.items c.feed-fed.result)
    c.requires.empty c.feed-fed.ensures in
    let feeds : Feeds d d' piece [] c.deref.result.now c.feed-fed.result =
    subst (λ (l : List (List ℕ)). Feeds d d' piece [] l c.feed-fed.result) (sym c.deref.ensures.value) none in
    let counts : c.saturating_add-reading.result ≡ min (c.args.reading.now.taken + length piece) 18446744073709551615 =
    omega (arith, c.saturating_add-reading.ensures, c.split_at.ensures.front_len) in
    subst (SessionGoesOn asks a after old
    (tells c.answer_each.new.stream) d' c.saturating_add-reading.result) (sym c.go_on.ensures)
    (goes_on asks a here old (tells c.args.stream.now) d
    c.args.reading.now.taken so_far (tells c.take.new.self) (tells c.answer_each.new.stream)
    after piece d' c.deref.result.now reads most c.in-Ok-answer_each.ensures.half
    c.in-Ok-answer_each.ensures.later c.in-Ok-answer_each.ensures.answers
    c.saturating_add-reading.result counts c.feed-fed.result feeds)

pub returns-in-Err-answer_each-clause-goes : goal.returns-in-Err-answer_each-clause-goes
returns-in-Err-answer_each-clause-goes g c a old so_far =
    let desk = c.args.desk.now in
    let asks = gated g.A.Asker.tells (g.G.Gate.was_told desk.gate.now desk.session g.row.A.Denot) in
    let here : g.row.A.Denot × ℕ = (c.args.asker.now, c.args.reading.now.asked) in
    let tells = link g.L.Source.tells g.L.Sink.tells in
    let leaves = g.met.L.Stream.take_leaves c.args.stream.now c.take.new.self c.in-Ok.ensures.step in
    let after : g.row.A.Denot × ℕ = (c.answer_each.new.asker, c.answer_each.new.asked) in
    let piece : List ℕ = c.split_at.result.0.now in
    let d = c.args.reading.now.decoder in
    let d' = c.feed-fed.new.self in
    let reads : Reads (tells c.args.stream.now) (tells c.take.new.self) piece =
    subst (Reads (tells c.args.stream.now) (tells c.take.new.self)) (sym c.split_at.ensures.front) (record {
      read = c.in-Ok.ensures.bytes.0;
      written = leaves.bytes;
      writes = leaves.faults;
      later = c.in-Ok.ensures.cause.later;
    }) in
    let most : length piece ≤ 8192 = grind (arith, common_steps) in
    let none : Feeds d d' piece [] c.feed-fed.new.frames.items c.feed-fed.result =
    subst (λ (l : List (List ℕ)). Feeds d d' piece l c.feed-fed.new.frames.items c.feed-fed.result)
    c.requires.empty c.feed-fed.ensures in
    let feeds : Feeds d d' piece [] c.deref.result.now c.feed-fed.result =
    subst (λ (l : List (List ℕ)). Feeds d d' piece [] l c.feed-fed.result) (sym c.deref.ensures.value) none in
    subst (Serves asks a after old
    (tells c.answer_each.new.stream)) (sym c.end_of.ensures)
    (stops_so asks a here old (tells c.args.stream.now) d
    c.args.reading.now.taken so_far (tells c.take.new.self) (tells c.answer_each.new.stream)
    after piece d' c.deref.result.now reads most c.in-Err-answer_each.ensures.half
    c.in-Err-answer_each.ensures.later c.feed-fed.result feeds c.in-Err-answer_each.stop
    c.in-Err-answer_each.ensures.answers)
