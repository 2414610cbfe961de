use Rattle.std.proofs.Common.{◌≤◌, ◌-◌, length}
use Rattle.ov_session.specs.Links.{IsSameLoan, link}
use Rattle.ov_session.specs.Reading.{Reads}
use Rattle.ov_session.proofs.peer.take_body.Given as goal

abbrev pub invariant-pieces : goal.invariant-pieces
invariant-pieces g l = record {
  within : length l.reply.items ≤ l.fn.wanted;
  reads : Reads
      (link g.L.Source.tells g.L.Sink.tells l.fn.stream)
      (link g.L.Source.tells g.L.Sink.tells l.stream)
      l.reply.items;
  same : IsSameLoan g.L.Source.tells g.L.Sink.tells l.fn.stream l.stream;
}

abbrev pub decreases-pieces : goal.decreases-pieces
decreases-pieces g l = l.fn.wanted - length l.reply.items
