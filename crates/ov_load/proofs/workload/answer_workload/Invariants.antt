use Rattle.std.proofs.Common.{◌≡◌, ◌≤◌, ◌+◌, ◌-◌, false}
use Rattle.ov_history.specs.Plain.{PlainHistory}
use Rattle.ov_script.specs.declared.drawn.TheConstants.{WORKLOAD_USERS}
use Rattle.ov_script.specs.Workload.{first_commands}
use Rattle.ov_machine.specs.Machine.{StandsFor}
use Rattle.ov_machine.specs.Sinks.{Grows}
use Rattle.ov_answering.specs.Tracing.{TranscribesAll}
use Rattle.ov_load.specs.Loading.{LoadedTo}
use Rattle.ov_load.specs.Tallying.{AreAtMost}
use Rattle.ov_load.proofs.workload.answer_workload.Given as goal

abbrev pub invariant-commands : goal.invariant-commands
invariant-commands g l = record {
  so_far : (h : PlainHistory) → StandsFor l.fn.machine.kept h
      → LoadedTo g.D.Disk.tells l.fn.machine.kept.masters h l.fn.load l.workload.place
      l.tally l.fn.machine l.machine;
  number : l.workload.number ≡ l.fn.load.number;
  count : l.workload.count ≡ l.fn.load.count;
  place : l.workload.place ≤ WORKLOAD_USERS + l.fn.load.count;
  room : AreAtMost l.tally.counts l.workload.place;
  masters : l.machine.kept.masters ≡ l.fn.machine.kept.masters;
  healthy : l.machine.failed ≡ false;
  same_disk : g.D.Disk.tells.borrow l.machine.disk ≡ g.D.Disk.tells.borrow l.fn.machine.disk;
  disk_later : g.D.Disk.tells.faults l.fn.machine.disk ≤ g.D.Disk.tells.faults l.machine.disk;
  sent : (h : PlainHistory) → StandsFor l.fn.machine.kept h
      → TranscribesAll l.fn.machine.kept.masters h (first_commands l.fn.load.number l.workload.place) (g.T.Sink.tells.written l.fn.trace) (g.T.Sink.tells.written l.trace);
  trace_grew : Grows (g.T.Sink.tells.written l.fn.trace) (g.T.Sink.tells.written l.trace);
  trace_later : g.T.Sink.tells.faults l.fn.trace ≤ g.T.Sink.tells.faults l.trace;
}

abbrev pub decreases-commands : goal.decreases-commands
decreases-commands g l = WORKLOAD_USERS + l.fn.load.count - l.workload.place
