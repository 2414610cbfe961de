use Rattle.std.proofs.Common.{◌≡◌, ◌≤◌, false}
use Rattle.std.specs.Prelude.{IfSome, None}
use Rattle.ov_history.specs.Plain.{PlainHistory}
use Rattle.ov_script.specs.Place.{text_left}
use Rattle.ov_machine.specs.Machine.{StandsFor}
use Rattle.ov_machine.specs.Sinks.{Grows}
use Rattle.ov_answering.specs.Answering.{SoFar}
use Rattle.ov_answering.specs.Tracing.{TracesSoFar}
use Rattle.ov_answering.proofs.ByScript.{IsReadSoFar}
use Rattle.ov_answering.proofs.Pacing.{IsPacedSoFar}
use Rattle.ov_answering.proofs.answer.answer_all.Given as goal

abbrev pub invariant-items : goal.invariant-items
invariant-items g l = record {
  so_far : (p : PlainHistory) → StandsFor l.fn.machine.kept p → IfSome (text_left g.S.Source.tells l.fn.script) (λ text.
      SoFar g.D.Disk.tells l.fn.machine.kept.masters p text
      (text_left g.S.Source.tells l.script) l.script.line l.script.room (g.O.Sink.tells.written l.fn.out) (g.O.Sink.tells.written l.out) l.fn.machine l.machine);
  read : IfSome (text_left g.S.Source.tells l.fn.script) (λ text.
      IsReadSoFar text (text_left g.S.Source.tells l.script) l.script.line l.script.room (g.O.Sink.tells.written l.fn.out) (g.O.Sink.tells.written l.out));
  paced : (p : PlainHistory) → StandsFor l.fn.machine.kept p → IfSome (text_left g.S.Source.tells l.fn.script) (λ _.
      IsPacedSoFar g.S.Source.tells p l.fn.script.source l.script.source (g.O.Sink.tells.written l.fn.out) (g.O.Sink.tells.written l.out));
  kept : (p : PlainHistory) → StandsFor l.fn.machine.kept p
      → (q : PlainHistory) × StandsFor l.machine.kept q;
  masters : l.machine.kept.masters ≡ l.fn.machine.kept.masters;
  healthy : l.machine.failed ≡ false;
  grew : Grows (g.O.Sink.tells.written l.fn.out) (g.O.Sink.tells.written l.out);
  ended : l.script.ended ≡ None;
  same : g.S.Source.tells.borrow l.script.source ≡ g.S.Source.tells.borrow l.fn.script.source;
  read_later : g.S.Source.tells.faults l.fn.script.source ≤ g.S.Source.tells.faults l.script.source;
  same_disk : g.D.Disk.tells.borrow l.machine.disk ≡ g.D.Disk.tells.borrow l.fn.machine.disk;
  disk_later : g.D.Disk.tells.faults l.fn.machine.disk ≤ g.D.Disk.tells.faults l.machine.disk;
  write_later : g.O.Sink.tells.faults l.fn.out ≤ g.O.Sink.tells.faults l.out;
  traced : (p : PlainHistory) → StandsFor l.fn.machine.kept p → IfSome (text_left g.S.Source.tells l.fn.script) (λ text.
      TracesSoFar l.fn.machine.kept.masters p text (text_left g.S.Source.tells l.script) l.script.line l.script.room l.machine.kept
      (g.O.Sink.tells.written l.fn.out) (g.O.Sink.tells.written l.out) (g.T.Sink.tells.written l.fn.trace) (g.T.Sink.tells.written l.trace));
  trace_grew : Grows (g.T.Sink.tells.written l.fn.trace) (g.T.Sink.tells.written l.trace);
  trace_later : g.T.Sink.tells.faults l.fn.trace ≤ g.T.Sink.tells.faults l.trace;
}

abbrev pub decreases-items : goal.decreases-items
decreases-items g l = l.script.room
