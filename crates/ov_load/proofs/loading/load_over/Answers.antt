use Rattle.std.proofs.Common.{arith, inl, inr, refl, subst, sym}
use Rattle.std.proofs.lemmas.Grind.{common_steps}
use Rattle.ov_machine.specs.Disks.{Holds}
use Rattle.ov_machine.specs.Machine.{plain_masters}
use Rattle.ov_answering.specs.Printing.{IsStoreStatus}
use Rattle.ov_answering.proofs.Beginning.{disk_said, tells_nothing}
use Rattle.ov_answering.proofs.Judging.{judged_open, judged_refused}
use Rattle.ov_answering.proofs.Statuses.{ends_or_so, fault_no_read, fault_no_tag, fault_so, not_refused, script_seven, script_six}
use Rattle.ov_load.specs.LoadEnding.{LoadEndsAs}
use Rattle.ov_load.proofs.LoadEnds.{begin_no_script, load_begun, load_refused}
use Rattle.ov_load.proofs.loading.load_over.Goals as goal

pub returns-in-Ok-clause-status : goal.returns-in-Ok-clause-status
returns-in-Ok-clause-status g c = (inr c.load_machine-code.ensures.status.0, c.load_machine-code.ensures.status.1)

pub returns-in-Err-clause-status : goal.returns-in-Err-clause-status
returns-in-Err-clause-status g c = (
  ends_or_so IsStoreStatus _ _ _ _ _ (fault_so c.in-Err.refused.fault) (inr script_six)
      (inr script_seven) c.put_fault.ensures.ends,
  begin_no_script c.in-Err.refused.fault _ _ _ _ c.put_fault.ensures.ends,
)

pub returns-in-Ok-clause-ends : goal.returns-in-Ok-clause-ends
returns-in-Ok-clause-ends g c = λ h opens.
    load_begun g.D.Disk.tells
    (plain_masters c.args.masters) h c.args.load.now _ _ _ _ _ c.args.disk opens
    c.of-machine.result c.in-Ok.store c.of-machine.ensures.store c.of-machine.ensures.masters
    c.in-Ok.ensures.new c.in-Ok.ensures.found c.in-Ok.ensures.any_moment
    c.into_disk.result
    (λ q stands. subst (λ (last : g.row.D.Denot).
    LoadEndsAs g.D.Disk.tells
    c.of-machine.result.kept.masters q c.args.load.now c.of-machine.result.disk last
    (g.O.Sink.tells.written c.args.out.now) (g.O.Sink.tells.written c.load_machine-code.new.out)
    (g.T.Sink.tells.written c.args.trace.now) (g.T.Sink.tells.written c.load_machine-code.new.trace)
    c.load_machine-code.result (Holds g.D.Disk.tells
    c.of-machine.result.kept.masters q q c.of-machine.result.disk))
    (sym c.into_disk.ensures) (c.load_machine-code.ensures.ends q stands))

pub returns-in-Err-clause-ends : goal.returns-in-Err-clause-ends
returns-in-Err-clause-ends g c = λ h opens.
    load_refused g.D.Disk.tells
    (plain_masters c.args.masters) h c.args.load.now _ _ _ (g.T.Sink.tells.written c.args.trace.now) _ c.args.disk opens
    c.in-Err.refused.disk c.in-Err.refused.fault c.in-Err.ensures.fault c.put_fault.ensures.ends
    c.in-Err.ensures.any_moment

pub returns-in-Ok-clause-image : goal.returns-in-Ok-clause-image
returns-in-Ok-clause-image g c = λ i told.
    judged_open (plain_masters c.args.masters) c.args.load.now.mode i _ _ _ _ _
    (c.in-Ok.ensures.found.0 i told).some
    (not_refused _ c.load_machine-code.ensures.status.0)

pub returns-in-Err-clause-image : goal.returns-in-Err-clause-image
returns-in-Err-clause-image g c = λ i told.
    judged_refused (plain_masters c.args.masters) c.args.load.now.mode i _ _ _ _ _ c.in-Err.refused.fault
    (c.in-Err.ensures.fault i told)
    c.put_fault.ensures.ends refl (c.in-Err.ensures.untouched i told)

pub returns-in-Ok-clause-causes : goal.returns-in-Ok-clause-causes
returns-in-Ok-clause-causes g c =
    let causes = c.load_machine-code.ensures.causes in
    let answered = causes.disk in
    let begun = c.in-Ok.ensures.call in
    record {
      disk = record {
        same = grind (arith, common_steps);
        later = grind (arith, common_steps);
        rose = λ e. let rose = answered.rose e in grind (arith, common_steps);
      };
      read = causes.read;
      write = causes.write;
      tag = λ e.
          let wrong = causes.tag e in (
            wrong.0,
            tells_nothing g.D.Disk.tells
                (plain_masters c.args.masters) c.args.load.now.mode c.args.disk c.of-machine.result c.in-Ok.store
                c.of-machine.ensures.store c.of-machine.ensures.masters c.in-Ok.ensures.new.1
                c.in-Ok.ensures.found wrong.1,
          );
    }

pub returns-in-Err-clause-causes : goal.returns-in-Err-clause-causes
returns-in-Err-clause-causes g c =
    let ends = c.put_fault.ensures.ends in
    record {
      disk = record {
        same = c.in-Err.ensures.call.same;
        later = c.in-Err.ensures.call.later;
        rose = λ e. c.in-Err.ensures.call.rose (disk_said c.in-Err.refused.fault _ _ _ _ ends e);
      };
      read = λ e. fault_no_read c.in-Err.refused.fault _ _ _ _ ends e;
      write = λ e. inl (c.put_fault.ensures.put.write e);
      tag = λ e. absurd (fault_no_tag c.in-Err.refused.fault _ _ _ _ ends e);
    }
