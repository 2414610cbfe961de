use Rattle.std.proofs.Common.{[], ap, arith, refl, rules, subst, sym, ℕ, ◌∙◌}
use Rattle.std.proofs.KnownBytes.{Appends-nil}
use Rattle.ov_script.specs.Workload.{Progress, first_commands}
use Rattle.ov_machine.specs.declared.fault.StepFault.TheVariants.{Memory}
use Rattle.ov_answering.specs.Tracing.{TranscribesAll}
use Rattle.ov_answering.proofs.Answering.{grows_on, rose_since}
use Rattle.ov_load.specs.Loading.{LoadedTo}
use Rattle.ov_load.specs.Tallying.{AreAtMost}
use Rattle.ov_load.proofs.LoadTracing.{as_fault, none_sent, same_fault, sent_end, sent_end_stops, sent_more, sent_stops, sent_to_end, stops_behind}
use Rattle.ov_load.proofs.WorkloadSteps.{ended, ends_asked, ends_unasked, goes_on, loads_none, low_more, low_none, low_so, stops, to_end, workload_comes}
use Rattle.ov_load.proofs.workload.answer_workload.Goals as goal

pub commands-init : goal.commands-init
commands-init g c =
    let place = ap (λ (w : Progress). w.place) c.new-workload.ensures in record {
      so_far = λ h stands.
          subst
          (λ (n : ℕ). LoadedTo g.D.Disk.tells c.args.machine.now.kept.masters h c.args.load.now n
          c.new-tally.result c.args.machine.now c.args.machine.now) (sym place)
          (loads_none g.D.Disk.tells c.args.machine.now.kept.masters h c.args.load.now c.args.machine.now
          c.new-tally.result c.new-tally.ensures stands);
      number = ap (λ (w : Progress). w.number) c.new-workload.ensures;
      count = ap (λ (w : Progress). w.count) c.new-workload.ensures;
      place = omega (arith, place);
      room = subst (λ (n : ℕ). AreAtMost c.new-tally.result.counts n) (sym place)
          (low_none c.new-tally.result.counts c.new-tally.ensures.0);
      masters = refl;
      healthy = c.requires.healthy;
      same_disk = refl;
      disk_later = omega arith;
      sent = λ h stands.
          subst
          (λ (n : ℕ). TranscribesAll c.args.machine.now.kept.masters h
          (first_commands c.args.load.now.number n) (g.T.Sink.tells.written c.args.trace.now)
          (g.T.Sink.tells.written c.args.trace.now)) (sym place)
          (none_sent c.args.machine.now.kept.masters h c.args.load.now
          (g.T.Sink.tells.written c.args.trace.now));
      trace_grew = ([], Appends-nil (g.T.Sink.tells.written c.args.trace.now));
      trace_later = omega arith;
    }

pub answer-requires-clause-command : goal.answer-requires-clause-command
answer-requires-clause-command g c =
    let gives = rw c.in-Some.is at c.in_ok-command.ensures.gives in
    workload_comes c.commands.workload.number c.commands.workload.place c.in-Some.command
    (omega (arith, gives.0, c.commands.invariant.count, c.requires.count)) gives.1

pub commands-preserved : goal.commands-preserved
commands-preserved g c =
    let gives = rw c.in-Some.is at c.in_ok-command.ensures.gives in
    let inv = c.commands.invariant in
    let next = ap (λ (w : Progress). w.place) gives.2 in
    let step = c.in_ok-answer.ensures.step in
    record {
      so_far = λ h stands.
          goes_on g.D.Disk.tells _ h c.args.load.now c.args.machine.now
          c.commands.workload c.next.new.self c.in-Some.command inv.number inv.count gives _ _ _ _ inv.masters (inv.so_far h stands)
          c.in_ok-answer.field-0 c.in_ok-answer.ensures.answer;
      number = ap (λ (w : Progress). w.number) gives.2 ∙ inv.number;
      count = ap (λ (w : Progress). w.count) gives.2 ∙ inv.count;
      place = omega (arith, next, gives.0, inv.count);
      room = low_so _ _ _ (low_more _ _ _ inv.room c.in_ok-answer.ensures.counts) (omega (arith, next));
      masters = step.masters ∙ inv.masters;
      healthy = step.sound ∙ inv.healthy;
      same_disk = step.call.same ∙ inv.same_disk;
      disk_later = omega (arith, inv.disk_later, step.call.later);
      sent = λ h stands.
          sent_more g.D.Disk.tells _ h c.args.load.now c.args.machine.now
          c.commands.workload c.next.new.self c.in-Some.command inv.number inv.count gives c.commands.tally c.answer.new.tally _ c.answer.new.machine inv.masters _ _ _
          (inv.so_far h stands) (inv.sent h stands) c.in_ok-answer.ensures.traced;
      trace_grew = grows_on _ _ _ inv.trace_grew c.in_ok-answer.ensures.trace.grew;
      trace_later = omega (arith, inv.trace_later, c.in_ok-answer.ensures.trace.later);
    }

pub returns-in_err-answer-clause-loads : goal.returns-in_err-answer-clause-loads
returns-in_err-answer-clause-loads g c = λ h stands.
    let gives = rw c.in-Some.is at c.in_ok-command.ensures.gives in
    let inv = c.commands.invariant in
    stops g.D.Disk.tells _ h c.args.load.now c.args.machine.now
    c.commands.workload c.next.new.self c.in-Some.command inv.number inv.count gives _ _ _ _ inv.masters (inv.so_far h stands)
    c.answer.result c.in_err-answer.field-0.0 (search rules) c.answer.ensures.answer c.from_residual-in_err-answer.result (search rules)

pub returns-in_err-answer-clause-traced : goal.returns-in_err-answer-clause-traced
returns-in_err-answer-clause-traced g c = λ h stands.
    let gives = rw c.in-Some.is at c.in_ok-command.ensures.gives in
    let inv = c.commands.invariant in
    as_fault _ _ h c.args.load.now _ _ _ _ c.from_residual-in_err-answer.result c.in_err-answer.field-0.0 (search rules)
    (sent_stops g.D.Disk.tells _ h c.args.load.now c.args.machine.now
    c.commands.workload c.next.new.self c.in-Some.command inv.number inv.count gives _ _ _ _ inv.masters _ _ _ (inv.so_far h stands) (inv.sent h stands)
    c.answer.result c.in_err-answer.field-0.0 (search rules) c.answer.ensures.answer c.in_err-answer.ensures.traced)

pub returns-in_err-answer-clause-trace : goal.returns-in_err-answer-clause-trace
returns-in_err-answer-clause-trace g c =
    let inv = c.commands.invariant in
    let trace = c.answer.ensures.trace in
    record {
      grew = grows_on _ _ _ inv.trace_grew trace.grew;
      later = omega (arith, inv.trace_later, trace.later);
      write = λ e. rose_since _ _ _ inv.trace_later
          (trace.write (same_fault c.answer.result c.from_residual-in_err-answer.result c.in_err-answer.field-0.0 (search rules) (search rules) e));
    }

pub returns-in_err-command-clause-traced : goal.returns-in_err-command-clause-traced
returns-in_err-command-clause-traced g c = λ h stands.
    let inv = c.commands.invariant in
    as_fault _ _ h c.args.load.now _ _ _ _ c.from_residual.result Memory (search rules)
    (stops_behind g.D.Disk.tells _ h c.args.load.now c.args.machine.now c.commands.workload.place inv.place
    _ _ _ _ (inv.so_far h stands) (inv.sent h stands))

-- ---- the end

pub returns-in_err-step-clause-loads : goal.returns-in_err-step-clause-loads
returns-in_err-step-clause-loads g c = λ h stands.
    let inv = c.commands.invariant in
    let end = ended c.commands.workload _ c.in_ok-command.field-0 c.args.load.now.count c.in_ok-command.ensures.gives c.in_default.not-Some inv.count in
    ends_unasked g.D.Disk.tells _ h c.args.load.now c.args.machine.now c.commands.tally c.commands.machine c.step.new.self inv.masters
    (to_end g.D.Disk.tells _ h c.args.load.now c.args.machine.now c.commands.workload.place end _ _ (inv.so_far h stands))
    c.step.result c.in_err-step.field-0.0 c.in_err-step.was c.step.ensures.steps c.from_residual-in_err-step.result (search rules)

pub returns-in_err-step-clause-traced : goal.returns-in_err-step-clause-traced
returns-in_err-step-clause-traced g c = λ h stands.
    let inv = c.commands.invariant in
    let end = ended c.commands.workload _ c.in_ok-command.field-0 c.args.load.now.count c.in_ok-command.ensures.gives c.in_default.not-Some inv.count in
    as_fault _ _ h c.args.load.now _ _ _ _ c.from_residual-in_err-step.result c.in_err-step.field-0.0 (search rules)
    (sent_end_stops g.D.Disk.tells _ h c.args.load.now c.args.machine.now c.commands.tally c.commands.machine c.step.new.self inv.masters _ _ _
    (to_end g.D.Disk.tells _ h c.args.load.now c.args.machine.now c.commands.workload.place end _ _ (inv.so_far h stands))
    (sent_to_end g.D.Disk.tells c.args.machine.now.kept.masters h c.args.load.now c.args.machine.now c.commands.workload.place end _ _ (inv.sent h stands))
    c.step.result c.in_err-step.field-0.0 c.in_err-step.was c.step.ensures.steps c.in_err-step.ensures.traced)

pub returns-in_err-step-clause-trace : goal.returns-in_err-step-clause-trace
returns-in_err-step-clause-trace g c =
    let inv = c.commands.invariant in
    let sink = c.step.ensures.sink in
    record {
      grew = grows_on _ _ _ inv.trace_grew sink.grew;
      later = omega (arith, inv.trace_later, sink.later);
      write = λ e. rose_since _ _ _ inv.trace_later
          (sink.write (same_fault c.step.result c.from_residual-in_err-step.result c.in_err-step.field-0.0 c.in_err-step.was (search rules) e));
    }

pub returns-clause-loads : goal.returns-clause-loads
returns-clause-loads g c = λ h stands.
    let inv = c.commands.invariant in
    let end = ended c.commands.workload _ c.in_ok-command.field-0 c.args.load.now.count c.in_ok-command.ensures.gives c.in_default.not-Some inv.count in
    ends_asked g.D.Disk.tells _ h c.args.load.now c.args.machine.now c.commands.tally c.commands.machine c.step.new.self inv.masters
    (to_end g.D.Disk.tells _ h c.args.load.now c.args.machine.now c.commands.workload.place end _ _ (inv.so_far h stands))
    c.in_ok-step.field-0 c.in_ok-step.ensures.steps

pub returns-clause-traced : goal.returns-clause-traced
returns-clause-traced g c = λ h stands.
    let inv = c.commands.invariant in
    let end = ended c.commands.workload _ c.in_ok-command.field-0 c.args.load.now.count c.in_ok-command.ensures.gives c.in_default.not-Some inv.count in
    sent_end g.D.Disk.tells _ h c.args.load.now c.args.machine.now c.commands.tally c.commands.machine c.step.new.self inv.masters _ _ _
    (to_end g.D.Disk.tells _ h c.args.load.now c.args.machine.now c.commands.workload.place end _ _ (inv.so_far h stands))
    (sent_to_end g.D.Disk.tells c.args.machine.now.kept.masters h c.args.load.now c.args.machine.now c.commands.workload.place end _ _ (inv.sent h stands))
    c.in_ok-step.field-0 c.in_ok-step.ensures.steps c.in_ok-step.ensures.traced

pub returns-clause-trace : goal.returns-clause-trace
returns-clause-trace g c =
    let inv = c.commands.invariant in
    let sink = c.step.ensures.sink in
    record {
      grew = grows_on _ _ _ inv.trace_grew sink.grew;
      later = omega (arith, inv.trace_later, sink.later);
      write = λ e. absurd (cc);
    }
