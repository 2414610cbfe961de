use Rattle.std.proofs.Common.{ap, arith, inl, sym, Err, [], ◌≡◌, ◌∙◌}
use Rattle.std.proofs.KnownBytes.{Appends-nil}
use Rattle.ov_history.specs.Plain.{PlainHistory}
use Rattle.ov_machine.specs.Machine.{StandsFor}
use Rattle.ov_answering.specs.declared.answer.Stop.{Stop}
use Rattle.ov_answering.proofs.Answering.{disk_only, no_read, no_write, tag_only, trace_only}
use Rattle.ov_answering.proofs.Statuses.{finish_disk, finish_read, finish_tag, finishes_so}
use Rattle.ov_load.proofs.LoadEnds.{ends_faulted, ends_loaded, fault_no_script, no_tag, summary_not, summary_status, wrote_or}
use Rattle.ov_load.proofs.loading.load_machine.Goals as goal

pub returns-in-Ok-clause-ends : goal.returns-in-Ok-clause-ends
returns-in-Ok-clause-ends g c = λ h stands.
    ends_loaded g.D.Disk.tells _ h c.args.load.now _ _ _ _ _
    c.args.machine.now c.answer_workload.new.machine c.in-Ok.tally (c.in-Ok.ensures.loads h stands)
    _ c.epoch.ensures c.put_summary.ensures.ends (c.in-Ok.ensures.traced h stands)

pub returns-in-Err-clause-ends : goal.returns-in-Err-clause-ends
returns-in-Err-clause-ends g c = λ h stands.
    ends_faulted g.D.Disk.tells _ h c.args.load.now _ _ _ _ _
    c.args.machine.now c.answer_workload.new.machine c.in-Err.fault _ (c.in-Err.ensures.loads h stands)
    (rw c.stop_of.ensures at c.finish.ensures.finish) (c.in-Err.ensures.traced h stands)

pub returns-in-Ok-clause-status : goal.returns-in-Ok-clause-status
returns-in-Ok-clause-status g c =
    let ends = c.put_summary.ensures.ends in (
      summary_status _ _ _ _ _ _ ends,
      (
        summary_not 3 _ _ _ _ _ _ ends (λ z. omega arith) (λ z. omega arith) (λ z. omega arith),
        summary_not 11 _ _ _ _ _ _ ends (λ z. omega arith) (λ z. omega arith) (λ z. omega arith),
      ),
    )

pub returns-in-Err-clause-status : goal.returns-in-Err-clause-status
returns-in-Err-clause-status g c =
    (finishes_so _ _ _ _ _ c.finish.ensures.finish, fault_no_script c.in-Err.fault _ _ _ _ (rw c.stop_of.ensures at c.finish.ensures.finish))

pub returns-in-Ok-clause-causes : goal.returns-in-Ok-clause-causes
returns-in-Ok-clause-causes g c =
    let never = summary_not in
    let ends = c.put_summary.ensures.ends in
    let call = c.in-Ok.ensures.step.call in
    record {
      disk = record {
        same = call.same;
        later = call.later;
        rose = λ e. absurd (summary_not 4 _ _ _ _ _ _ ends (λ z. omega arith) (λ z. omega arith) (λ z. omega arith) e);
      };
      read = λ e. summary_not 5 _ _ _ _ _ _ ends (λ z. omega arith) (λ z. omega arith) (λ z. omega arith) e;
      write = λ e. inl (c.put_summary.ensures.put.write e);
      tag = λ e. absurd (summary_not 12 _ _ _ _ _ _ ends (λ z. omega arith) (λ z. omega arith) (λ z. omega arith) e);
    }

pub returns-in-Err-clause-causes : goal.returns-in-Err-clause-causes
returns-in-Err-clause-causes g c =
    let finished = rw c.stop_of.ensures at c.finish.ensures.finish in
    let step = c.in-Err.ensures.step in
    record {
      disk = record {
        same = step.call.same;
        later = step.call.later;
        rose = λ e. step.call.rose (ap Err (disk_only c.in-Err.fault (finish_disk _ _ _ _ _ finished e)));
      };
      read = λ e. no_read c.in-Err.fault (finish_read _ _ _ _ _ finished e);
      write = λ e. wrote_or _ _ _ _ (λ (is : c.stop_of.result ≡ Stop.Write). no_write c.in-Err.fault (sym c.stop_of.ensures ∙ is))
          (λ (is : c.stop_of.result ≡ Stop.Trace). c.in-Err.ensures.trace.write (ap Err (trace_only c.in-Err.fault (sym c.stop_of.ensures ∙ is)))) (c.finish.ensures.write e);
      tag = finish_tag ((h : PlainHistory) → StandsFor c.args.machine.now.kept h → ⊥) _ _ _ _ _ _ finished ([], Appends-nil _)
          (λ bad is. let wrong = tag_only c.in-Err.fault bad is in (
            step.tag bad (ap Err wrong),
            λ h stands. no_tag g.D.Disk.tells _ h c.args.load.now
                c.args.machine.now c.answer_workload.new.machine c.in-Err.fault bad wrong (c.in-Err.ensures.loads h stands),
          ));
    }
