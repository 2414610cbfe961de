use Rattle.std.proofs.Common.{◌≡◌, []}
use Rattle.ov_session.specs.Gates.{gated}
use Rattle.ov_session.specs.Links.{IsSameLoan, link}
use Rattle.ov_session.specs.Steps.{Going}
use Rattle.ov_session.proofs.one.serve_one.Given as goal

abbrev pub invariant-pieces : goal.invariant-pieces
invariant-pieces g l = record {
  going : Going
      (gated g.A.Asker.tells (g.G.Gate.was_told l.gate l.session g.row.A.Denot))
      (l.fn.asker, 0) (l.asker, l.reading.asked)
      (link g.L.Source.tells g.L.Sink.tells l.fn.stream)
      (link g.L.Source.tells g.L.Sink.tells l.stream)
      l.reading.decoder l.reading.taken;
  same : IsSameLoan g.L.Source.tells g.L.Sink.tells l.fn.stream l.stream;
  ready : g.A.Asker.tells.ready l.asker;
  asker : g.A.Asker.tells.borrow l.asker ≡ g.A.Asker.tells.borrow l.fn.asker;
  empty : l.reading.frames.items ≡ [];
}
