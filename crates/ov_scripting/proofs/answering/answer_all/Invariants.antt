use Rattle.std.proofs.Common.{◌≡◌, ◌≤◌}
use Rattle.std.specs.Prelude.{None}
use Rattle.ov_script.specs.Place.{text_left}
use Rattle.ov_scripting.proofs.Answered.{SoFar}
use Rattle.ov_scripting.proofs.answering.answer_all.Given as goal

abbrev pub invariant-items : goal.invariant-items
invariant-items g l = record {
  so_far : SoFar g.P.Peer.tells l.owner (text_left g.S.Source.tells l.fn.script)
      (text_left g.S.Source.tells l.script) l.script.line l.script.room l.fn.peer l.peer
      (g.O.Sink.tells.written l.fn.out) (g.O.Sink.tells.written l.out);
  ended : l.script.ended ≡ None;
  same : g.S.Source.tells.borrow l.script.source ≡ g.S.Source.tells.borrow l.fn.script.source;
  read_later : g.S.Source.tells.faults l.fn.script.source ≤ g.S.Source.tells.faults l.script.source;
  write_later : g.O.Sink.tells.faults l.fn.out ≤ g.O.Sink.tells.faults l.out;
  peer_later : g.P.Peer.tells.faults l.fn.peer ≤ g.P.Peer.tells.faults l.peer;
}

abbrev pub decreases-items : goal.decreases-items
decreases-items g l = l.script.room
