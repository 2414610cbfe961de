use Rattle.std.proofs.Common.{◌≡◌, ◌≤◌, take}
use Rattle.ov_session.specs.Gates.{gated}
use Rattle.ov_session.specs.Links.{IsSameLoan, link}
use Rattle.ov_session.specs.Steps.{AnswersThem, IsWriting}
use Rattle.ov_session.proofs.one.answer_each.Given as goal

abbrev pub invariant-loop-frame : goal.invariant-loop-frame
invariant-loop-frame g l = record {
  so_far : AnswersThem
      (gated g.A.Asker.tells
      (g.G.Gate.was_told l.desk.gate.now l.desk.session g.row.A.Denot))
      (l.fn.asker, l.fn.asked) (l.asker, l.asked)
      (link g.L.Source.tells g.L.Sink.tells l.fn.stream)
      (link g.L.Source.tells g.L.Sink.tells l.stream)
      (take l.frame-index l.frames);
  half : IsWriting
      (link g.L.Source.tells g.L.Sink.tells l.fn.stream)
      (link g.L.Source.tells g.L.Sink.tells l.stream);
  later : g.L.Sink.tells.faults l.fn.stream ≤ g.L.Sink.tells.faults l.stream;
  same : IsSameLoan g.L.Source.tells g.L.Sink.tells l.fn.stream l.stream;
  ready : g.A.Asker.tells.ready l.asker;
  asker : g.A.Asker.tells.borrow l.asker ≡ g.A.Asker.tells.borrow l.fn.asker;
}
