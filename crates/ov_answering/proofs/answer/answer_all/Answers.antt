use Rattle.std.proofs.KnownBytes.{Appends-nil}
use Rattle.std.specs.Prelude.{Err}
use Rattle.std.proofs.Common.{[], ap, arith, ◌∙◌, Some, refl, sym}
use Rattle.std.proofs.lemmas.Grind.{common_steps}
use Rattle.ov_script.specs.Reading.{AtEnd, BadAt, TooLong}
use Rattle.ov_answering.proofs.Answered.{text_stops}
use Rattle.ov_answering.proofs.Answering.{answered, answered_end, answered_first, answered_more, answer_stops, begins_so, commands_come, disk_only, end_stops, end_tag, goes_on, grows_on, kept_more, no_write, rose_since, starts_fresh, tag_at_none, tag_only, trace_only}
use Rattle.ov_answering.proofs.ByScript.{end_unanswered, none_read_yet, read_ends, read_first, read_more, read_stops}
use Rattle.ov_answering.proofs.Pacing.{command_goes_on, none_pending, none_yet, paced_more, paced_next}
use Rattle.ov_answering.proofs.Tracing.{none_traced, traced_end, traced_end_stops, traced_first, traced_more, traced_stops, traced_whole}
use Rattle.ov_answering.proofs.answer.answer_all.Goals as goal

pub items-init : goal.items-init
items-init g c = record {
  so_far = λ p stands.
      begins_so g.D.Disk.tells c.args.machine.now.kept.masters p c.args.machine.now stands
      _ _ _ _ (starts_fresh _ c.requires.start).0 (starts_fresh _ c.requires.start).1;
  read = none_read_yet _ _ _ _ (starts_fresh _ c.requires.start).0 (starts_fresh _ c.requires.start).1;
  paced = λ p stands. none_yet g.S.Source.tells p _ _ _ _;
  kept = λ p stands. (p, stands);
  masters = grind (arith, common_steps);
  healthy = c.requires.healthy;
  grew = ([], Appends-nil _);
  ended = (starts_fresh _ c.requires.start).2;
  same = grind (arith, common_steps);
  read_later = grind (arith, common_steps);
  same_disk = grind (arith, common_steps);
  disk_later = grind (arith, common_steps);
  write_later = grind (arith, common_steps);
  traced = λ p stands. none_traced _ p _ _ _ _ _ _ stands (starts_fresh _ c.requires.start).0 (starts_fresh _ c.requires.start).1;
  trace_grew = ([], Appends-nil _);
  trace_later = grind (arith, common_steps);
}

pub answer-requires-clause-command : goal.answer-requires-clause-command
answer-requires-clause-command g c = commands_come _ c.in-Ok-Command.command c.in-Ok-Command.ensures.item c.in-Ok-Command.field-0-is

pub returns-in-Some-clause-text : goal.returns-in-Some-clause-text
returns-in-Some-clause-text g c = λ p stands.
    text_stops g.D.Disk.tells g.S.Source.tells _ p _ _ _ _ _ _ _ _ _ _
    (answer_stops g.D.Disk.tells _ p _ _ c.items.invariant.masters _ _ _ _ _ _ _ _ _ _ _ _ _
    (c.items.invariant.so_far p stands) (rw c.in-Ok-Command.field-0-is at (c.in-Ok-Command.ensures.says c.items.invariant.ended)) c.in-Some.ensures.answer)
    (paced_next g.S.Source.tells p g.D.Disk.tells _ _ _ _ _ _ _ _ _ _ _ _ _ _ _
    (none_pending _ c.requires.start) (c.items.invariant.so_far p stands) (c.items.invariant.paced p stands) c.in-Ok-Command.ensures.needed c.in-Some.ensures.sinks.0.grew)
    (traced_stops _ p _ c.items.invariant.masters _ _ _ _ _ _ c.answer.new.machine.kept _ _ _ _ _ _ _ _ _
    (c.items.invariant.traced p stands) (rw c.in-Ok-Command.field-0-is at (c.in-Ok-Command.ensures.says c.items.invariant.ended)) c.in-Some.ensures.traced)

pub items-preserved : goal.items-preserved
items-preserved g c = record {
  so_far = λ p stands.
      answered_more g.D.Disk.tells _ p _ _ c.items.invariant.masters _ _ _ _ _ _ _ _ _ _ _ _
      (c.items.invariant.so_far p stands) (rw c.in-Ok-Command.field-0-is at (c.in-Ok-Command.ensures.says c.items.invariant.ended)) c.in-None.ensures.answer;
  read = read_more _ _ _ _ _ _ _ _ _ _ _
      c.items.invariant.read (rw c.in-Ok-Command.field-0-is at (c.in-Ok-Command.ensures.says c.items.invariant.ended)) c.in-None.ensures.puts;
  paced = λ p stands.
      paced_more g.S.Source.tells p g.D.Disk.tells _ _ _ _ _ _ _ _ _ _ _ _ _ _ _
      (none_pending _ c.requires.start) (c.items.invariant.so_far p stands) (c.items.invariant.paced p stands) c.in-Ok-Command.ensures.needed c.in-None.ensures.sinks.0.grew
      (command_goes_on _ c.in-Ok-Command.command c.in-Ok-Command.field-0-is);
  kept = λ p stands.
      kept_more g.D.Disk.tells _ _ _ _ _
      c.in-None.ensures.answer (c.items.invariant.kept p stands);
  masters = c.in-None.ensures.step.masters ∙ c.items.invariant.masters;
  healthy = c.in-None.ensures.step.sound;
  grew = grows_on _ _ _ c.items.invariant.grew c.in-None.ensures.sinks.0.grew;
  ended = goes_on _ _ _ c.in-Ok-Command.command c.items.invariant.ended c.in-Ok-Command.ensures.ended c.in-Ok-Command.field-0-is;
  same = grind (arith, common_steps);
  read_later = grind (arith, common_steps);
  same_disk = c.in-None.ensures.step.call.same ∙ c.items.invariant.same_disk;
  disk_later = omega (arith, c.items.invariant.disk_later, c.in-None.ensures.step.call.later);
  write_later = omega (arith, c.items.invariant.write_later, c.in-None.ensures.sinks.0.later);
  traced = λ p stands.
      traced_more _ p _ c.items.invariant.masters _ _ _ _ _ _ _ _ _ _ _ _ _ _ _
      (c.items.invariant.traced p stands) (rw c.in-Ok-Command.field-0-is at (c.in-Ok-Command.ensures.says c.items.invariant.ended))
      (λ q keeps. (c.in-None.ensures.answer _ q refl keeps).1.stands) c.in-None.ensures.traced;
  trace_grew = grows_on _ _ _ c.items.invariant.trace_grew c.in-None.ensures.sinks.1.grew;
  trace_later = omega (arith, c.items.invariant.trace_later, c.in-None.ensures.sinks.1.later);
}

pub returns-in-Ok-BadLine-clause-text : goal.returns-in-Ok-BadLine-clause-text
returns-in-Ok-BadLine-clause-text g c = λ p stands.
    text_stops g.D.Disk.tells g.S.Source.tells _ p _ _ _ _ _ _ _ _ _ _
    (answered g.D.Disk.tells _ p _ _ c.items.invariant.masters _ _ _ _ _ _ (BadAt c.in-Ok-BadLine.line)
    (c.items.invariant.so_far p stands) (rw c.in-Ok-BadLine.field-0-is at (c.in-Ok-BadLine.ensures.says c.items.invariant.ended)))
    (paced_next g.S.Source.tells p g.D.Disk.tells _ _ _ _ _ _ _ _ _ _ _ _ _ _ _
    (none_pending _ c.requires.start) (c.items.invariant.so_far p stands) (c.items.invariant.paced p stands) c.in-Ok-BadLine.ensures.needed ([], Appends-nil _))
    (traced_whole _ p _ c.items.invariant.masters _ _ _ _ _ _ _ _ (BadAt c.in-Ok-BadLine.line) (λ commands. refl)
    (c.items.invariant.traced p stands) (rw c.in-Ok-BadLine.field-0-is at (c.in-Ok-BadLine.ensures.says c.items.invariant.ended)))

pub returns-in-Ok-Long-clause-text : goal.returns-in-Ok-Long-clause-text
returns-in-Ok-Long-clause-text g c = λ p stands.
    text_stops g.D.Disk.tells g.S.Source.tells _ p _ _ _ _ _ _ _ _ _ _
    (answered g.D.Disk.tells _ p _ _ c.items.invariant.masters _ _ _ _ _ _ TooLong
    (c.items.invariant.so_far p stands) (rw c.in-Ok-Long.field-0-is at (c.in-Ok-Long.ensures.says c.items.invariant.ended)))
    (paced_next g.S.Source.tells p g.D.Disk.tells _ _ _ _ _ _ _ _ _ _ _ _ _ _ _
    (none_pending _ c.requires.start) (c.items.invariant.so_far p stands) (c.items.invariant.paced p stands) c.in-Ok-Long.ensures.needed ([], Appends-nil _))
    (traced_whole _ p _ c.items.invariant.masters _ _ _ _ _ _ _ _ TooLong (λ commands. refl)
    (c.items.invariant.traced p stands) (rw c.in-Ok-Long.field-0-is at (c.in-Ok-Long.ensures.says c.items.invariant.ended)))

pub returns-in-Err-Read-clause-text : goal.returns-in-Err-Read-clause-text
returns-in-Err-Read-clause-text g c = λ p stands.
    text_stops g.D.Disk.tells g.S.Source.tells _ p _ _ _ _ _ _ _ _ _ _
    (answered_first g.D.Disk.tells _ p _ _ c.items.invariant.masters _ _ _ _ _ _
    (c.items.invariant.so_far p stands))
    (paced_next g.S.Source.tells p g.D.Disk.tells _ _ _ _ _ _ _ _ _ _ _ _ _ _ _
    (none_pending _ c.requires.start) (c.items.invariant.so_far p stands) (c.items.invariant.paced p stands) c.in-Err-Read.ensures.needed ([], Appends-nil _))
    (traced_first _ p _ c.items.invariant.masters _ _ _ _ _ _ _ _ (c.items.invariant.traced p stands))

pub returns-in-Err-Memory-clause-text : goal.returns-in-Err-Memory-clause-text
returns-in-Err-Memory-clause-text g c = λ p stands.
    text_stops g.D.Disk.tells g.S.Source.tells _ p _ _ _ _ _ _ _ _ _ _
    (answered_first g.D.Disk.tells _ p _ _ c.items.invariant.masters _ _ _ _ _ _
    (c.items.invariant.so_far p stands))
    (paced_next g.S.Source.tells p g.D.Disk.tells _ _ _ _ _ _ _ _ _ _ _ _ _ _ _
    (none_pending _ c.requires.start) (c.items.invariant.so_far p stands) (c.items.invariant.paced p stands) c.in-Err-Memory.ensures.needed ([], Appends-nil _))
    (traced_first _ p _ c.items.invariant.masters _ _ _ _ _ _ _ _ (c.items.invariant.traced p stands))

-- ---- what the script says

pub returns-in-Some-clause-script : goal.returns-in-Some-clause-script
returns-in-Some-clause-script g c =
    read_stops _ _ _ _ _ _ _ _ _ _ _ c.in-Some.stop
    c.items.invariant.read (rw c.in-Ok-Command.field-0-is at (c.in-Ok-Command.ensures.says c.items.invariant.ended)) c.in-Some.ensures.puts

pub returns-in-Ok-BadLine-clause-script : goal.returns-in-Ok-BadLine-clause-script
returns-in-Ok-BadLine-clause-script g c =
    read_ends _ _ _ _ _ _ (BadAt c.in-Ok-BadLine.line)
    c.items.invariant.read (rw c.in-Ok-BadLine.field-0-is at (c.in-Ok-BadLine.ensures.says c.items.invariant.ended))

pub returns-in-Ok-Long-clause-script : goal.returns-in-Ok-Long-clause-script
returns-in-Ok-Long-clause-script g c =
    read_ends _ _ _ _ _ _ TooLong
    c.items.invariant.read (rw c.in-Ok-Long.field-0-is at (c.in-Ok-Long.ensures.says c.items.invariant.ended))

pub returns-in-Err-Read-clause-script : goal.returns-in-Err-Read-clause-script
returns-in-Err-Read-clause-script g c = read_first _ _ _ _ _ _ c.items.invariant.read

pub returns-in-Err-Memory-clause-script : goal.returns-in-Err-Memory-clause-script
returns-in-Err-Memory-clause-script g c = read_first _ _ _ _ _ _ c.items.invariant.read

pub returns-in-Ok-clause-script : goal.returns-in-Ok-clause-script
returns-in-Ok-clause-script g c =
    read_ends _ _ _ _ _ _ AtEnd
    c.items.invariant.read (rw c.in-Ok-End.field-0-is at (c.in-Ok-End.ensures.says c.items.invariant.ended))

pub returns-in-Err-clause-script : goal.returns-in-Err-clause-script
returns-in-Err-clause-script g c =
    end_unanswered _ _ _ _ _ _ c.in-Err.fault c.stop_of.result c.stop_of.ensures
    c.items.invariant.read (λ bad e. c.in-Err.ensures.tag bad (ap Err e))

-- ---- the disk and the sinks

pub returns-in-Some-clause-machine : goal.returns-in-Some-clause-machine
returns-in-Some-clause-machine g c = record {
  call = record {
    same = c.in-Some.ensures.step.call.same ∙ c.items.invariant.same_disk;
    later = omega (arith, c.items.invariant.disk_later, c.in-Some.ensures.step.call.later);
    rose = λ e. rose_since _ _ _ c.items.invariant.disk_later (c.in-Some.ensures.step.call.rose (ap Some e));
  };
  tag = λ bad e. (
    c.in-Some.ensures.step.tag bad (ap Some e),
    λ p stands.
        tag_at_none g.D.Disk.tells _ _ _ _ _
        c.in-Some.stop bad e c.in-Some.ensures.answer (c.items.invariant.kept p stands),
  );
}

pub returns-in-Ok-BadLine-clause-machine : goal.returns-in-Ok-BadLine-clause-machine
returns-in-Ok-BadLine-clause-machine g c =
    let inv = c.items.invariant in
    record { call = record { same = inv.same_disk; later = inv.disk_later; rose = λ e. absurd (cc) }; tag = λ bad e. absurd (cc) }

pub returns-in-Ok-Long-clause-machine : goal.returns-in-Ok-Long-clause-machine
returns-in-Ok-Long-clause-machine g c =
    let inv = c.items.invariant in
    record { call = record { same = inv.same_disk; later = inv.disk_later; rose = λ e. absurd (cc) }; tag = λ bad e. absurd (cc) }

pub returns-in-Err-Read-clause-machine : goal.returns-in-Err-Read-clause-machine
returns-in-Err-Read-clause-machine g c =
    let inv = c.items.invariant in
    record { call = record { same = inv.same_disk; later = inv.disk_later; rose = λ e. absurd (cc) }; tag = λ bad e. absurd (cc) }

pub returns-in-Err-Memory-clause-machine : goal.returns-in-Err-Memory-clause-machine
returns-in-Err-Memory-clause-machine g c =
    let inv = c.items.invariant in
    record { call = record { same = inv.same_disk; later = inv.disk_later; rose = λ e. absurd (cc) }; tag = λ bad e. absurd (cc) }

pub returns-in-Some-clause-sinks : goal.returns-in-Some-clause-sinks
returns-in-Some-clause-sinks g c =
    let inv = c.items.invariant in (
      record {
        grew = grows_on _ _ _ inv.grew c.in-Some.ensures.sinks.0.grew;
        later = omega (arith, inv.write_later, c.in-Some.ensures.sinks.0.later);
        write = λ e. rose_since _ _ _ inv.write_later (c.in-Some.ensures.sinks.0.write (ap Some e));
      },
      record {
        grew = grows_on _ _ _ inv.trace_grew c.in-Some.ensures.sinks.1.grew;
        later = omega (arith, inv.trace_later, c.in-Some.ensures.sinks.1.later);
        write = λ e. rose_since _ _ _ inv.trace_later (c.in-Some.ensures.sinks.1.write (ap Some e));
      },
    )

pub returns-in-Ok-BadLine-clause-sinks : goal.returns-in-Ok-BadLine-clause-sinks
returns-in-Ok-BadLine-clause-sinks g c =
    let inv = c.items.invariant in (
      record { grew = inv.grew; later = inv.write_later; write = λ e. absurd (cc) },
      record { grew = inv.trace_grew; later = inv.trace_later; write = λ e. absurd (cc) },
    )

pub returns-in-Ok-Long-clause-sinks : goal.returns-in-Ok-Long-clause-sinks
returns-in-Ok-Long-clause-sinks g c =
    let inv = c.items.invariant in (
      record { grew = inv.grew; later = inv.write_later; write = λ e. absurd (cc) },
      record { grew = inv.trace_grew; later = inv.trace_later; write = λ e. absurd (cc) },
    )

pub returns-in-Err-Read-clause-sinks : goal.returns-in-Err-Read-clause-sinks
returns-in-Err-Read-clause-sinks g c =
    let inv = c.items.invariant in (
      record { grew = inv.grew; later = inv.write_later; write = λ e. absurd (cc) },
      record { grew = inv.trace_grew; later = inv.trace_later; write = λ e. absurd (cc) },
    )

pub returns-in-Err-Memory-clause-sinks : goal.returns-in-Err-Memory-clause-sinks
returns-in-Err-Memory-clause-sinks g c =
    let inv = c.items.invariant in (
      record { grew = inv.grew; later = inv.write_later; write = λ e. absurd (cc) },
      record { grew = inv.trace_grew; later = inv.trace_later; write = λ e. absurd (cc) },
    )

-- ---- the end of the script

pub step-requires-clause-command : goal.step-requires-clause-command
step-requires-clause-command g c = tt

pub returns-in-Ok-clause-text : goal.returns-in-Ok-clause-text
returns-in-Ok-clause-text g c = λ p stands.
    text_stops g.D.Disk.tells g.S.Source.tells _ p _ _ _ _ _ _ _ _ _ _
    (answered_end g.D.Disk.tells _ p _ _ c.items.invariant.masters _ _ _ _ _ _ _ _
    (c.items.invariant.so_far p stands) (rw c.in-Ok-End.field-0-is at (c.in-Ok-End.ensures.says c.items.invariant.ended)) c.in-Ok.ensures.steps)
    (paced_next g.S.Source.tells p g.D.Disk.tells _ _ _ _ _ _ _ _ _ _ _ _ _ _ _
    (none_pending _ c.requires.start) (c.items.invariant.so_far p stands) (c.items.invariant.paced p stands) c.in-Ok-End.ensures.needed ([], Appends-nil _))
    (traced_end _ p _ c.items.invariant.masters _ _ _ _ _ _ _ _ _
    (c.items.invariant.traced p stands) (rw c.in-Ok-End.field-0-is at (c.in-Ok-End.ensures.says c.items.invariant.ended)) c.in-Ok.ensures.traced)

pub returns-in-Err-clause-text : goal.returns-in-Err-clause-text
returns-in-Err-clause-text g c = λ p stands.
    text_stops g.D.Disk.tells g.S.Source.tells _ p _ _ _ _ _ _ _ _ _ _
    (end_stops g.D.Disk.tells _ p _ _ c.items.invariant.masters _ _ _ _ _ _ _ _ _ c.stop_of.ensures
    (c.items.invariant.so_far p stands) c.in-Err.ensures.steps)
    (paced_next g.S.Source.tells p g.D.Disk.tells _ _ _ _ _ _ _ _ _ _ _ _ _ _ _
    (none_pending _ c.requires.start) (c.items.invariant.so_far p stands) (c.items.invariant.paced p stands) c.in-Ok-End.ensures.needed ([], Appends-nil _))
    (traced_end_stops _ p _ c.items.invariant.masters _ _ _ _ _ _ _ _ _ _ c.stop_of.ensures _
    (c.items.invariant.traced p stands) (rw c.in-Ok-End.field-0-is at (c.in-Ok-End.ensures.says c.items.invariant.ended)) _ c.in-Err.ensures.traced)

pub returns-in-Ok-clause-machine : goal.returns-in-Ok-clause-machine
returns-in-Ok-clause-machine g c =
    let inv = c.items.invariant in
    let call = c.in-Ok.ensures.step.call in
    record {
      call = record { same = call.same ∙ inv.same_disk; later = omega (arith, inv.disk_later, call.later); rose = λ e. absurd (cc) };
      tag = λ bad e. absurd (cc);
    }

pub returns-in-Err-clause-machine : goal.returns-in-Err-clause-machine
returns-in-Err-clause-machine g c =
    let inv = c.items.invariant in
    let call = c.in-Err.ensures.step.call in
    record {
      call = record {
        same = call.same ∙ inv.same_disk;
        later = omega (arith, inv.disk_later, call.later);
        rose = λ e. rose_since _ _ _ inv.disk_later (call.rose (ap Err (disk_only c.in-Err.fault (sym c.stop_of.ensures ∙ e))));
      };
      tag = λ bad e.
          let is = tag_only c.in-Err.fault bad (sym c.stop_of.ensures ∙ e) in (
            c.in-Err.ensures.step.tag bad (ap Err is),
            λ p stands. end_tag g.D.Disk.tells c.items.machine c.step.new.self c.in-Err.fault bad is c.in-Err.ensures.steps (inv.kept p stands),
          );
    }

pub returns-in-Ok-clause-sinks : goal.returns-in-Ok-clause-sinks
returns-in-Ok-clause-sinks g c =
    let inv = c.items.invariant in
    let sink = c.in-Ok.ensures.sink in (
      record { grew = inv.grew; later = inv.write_later; write = λ e. absurd (cc) },
      record { grew = grows_on _ _ _ inv.trace_grew sink.grew; later = omega (arith, inv.trace_later, sink.later); write = λ e. absurd (cc) },
    )

pub returns-in-Err-clause-sinks : goal.returns-in-Err-clause-sinks
returns-in-Err-clause-sinks g c =
    let inv = c.items.invariant in
    let sink = c.in-Err.ensures.sink in (
      record { grew = inv.grew; later = inv.write_later; write = λ e. absurd (no_write c.in-Err.fault (sym c.stop_of.ensures ∙ e)) },
      record {
        grew = grows_on _ _ _ inv.trace_grew sink.grew;
        later = omega (arith, inv.trace_later, sink.later);
        write = λ e. rose_since _ _ _ inv.trace_later (sink.write (ap Err (trace_only c.in-Err.fault (sym c.stop_of.ensures ∙ e))));
      },
    )
