use Rattle.std.proofs.Common.{◌∙◌, ℕ, subst, take, drop, suc, arith}
use Rattle.ov_session.specs.Gates.{gated}
use Rattle.ov_session.specs.Links.{link}
use Rattle.ov_session.specs.Steps.{AnswersThem}
use Rattle.ov_session.proofs.Answering.{front_at, one_more, parts_at, stopped}
use Rattle.ov_session.proofs.one.answer_each.Goals as goal

pub returns-in-Err-clause-answers : goal.returns-in-Err-clause-answers
returns-in-Err-clause-answers g c =
    let desk = c.args.desk.now in
    let asks = gated g.A.Asker.tells (g.G.Gate.was_told desk.gate.now desk.session g.row.A.Denot) in
    let tells = link g.L.Source.tells g.L.Sink.tells in
    let frames = c.args.frames.now in
    let i = c.loop-frame.frame-index in
    stopped asks (c.args.asker.now, c.args.asked.now) (c.loop-frame.asker, c.loop-frame.asked)
    (c.answer_one.new.asker, c.answer_one.new.asked)
    (tells c.args.stream.now) (tells c.loop-frame.stream) (tells c.answer_one.new.stream) (take i frames)
    c.loop-frame.invariant.so_far c.as_slice.result.now frames (drop (suc i) frames)
    (parts_at frames i c.as_slice.result.now c.frame-item.result c.loop-frame-test.true c.as_slice.ensures
    c.frame-item.is) c.loop-frame.invariant.later c.in-Err.stop c.in-Err.ensures.answers

pub loop-frame-preserved : goal.loop-frame-preserved
loop-frame-preserved g c =
    let desk = c.args.desk.now in
    let asks = gated g.A.Asker.tells (g.G.Gate.was_told desk.gate.now desk.session g.row.A.Denot) in
    let tells = link g.L.Source.tells g.L.Sink.tells in
    let first : g.row.A.Denot × ℕ = (c.args.asker.now, c.args.asked.now) in
    let here : g.row.A.Denot × ℕ = (c.loop-frame.asker, c.loop-frame.asked) in
    let after : g.row.A.Denot × ℕ = (c.answer_one.new.asker, c.answer_one.new.asked) in
    let frames = c.args.frames.now in
    let i = c.loop-frame.frame-index in
    let before = c.loop-frame.invariant in
    let now = c.in-Ok.ensures in
    record {
      so_far = subst (AnswersThem asks first after
          (tells c.args.stream.now) (tells c.answer_one.new.stream))
          (front_at frames i c.as_slice.result.now c.frame-item.result c.loop-frame-test.true
          c.as_slice.ensures c.frame-item.is)
          (one_more asks first here after
          (tells c.args.stream.now) (tells c.loop-frame.stream) (tells c.answer_one.new.stream)
          (take i frames) before.so_far c.as_slice.result.now now.answers);
      half = record { left = now.half.left ∙ before.half.left; reads = now.half.reads ∙ before.half.reads };
      later = omega (arith, before.later, now.later);
      same = record { reads = now.same.reads ∙ before.same.reads; writes = now.same.writes ∙ before.same.writes };
      ready = now.ready;
      asker = now.asker ∙ before.asker;
    }
