use Rattle.std.proofs.Common.{arith, inl, inr, refl, subst, sym}
use Rattle.std.proofs.lemmas.Grind.{common_steps}
use Rattle.std.specs.Prelude.{IfSome}
use Rattle.ov_history.specs.Masters.{Masters}
use Rattle.ov_machine.specs.Disks.{Holds}
use Rattle.ov_machine.specs.Machine.{plain_masters}
use Rattle.ov_answering.specs.Ending.{EndsAs}
use Rattle.ov_answering.specs.Printing.{IsStoreStatus}
use Rattle.ov_answering.specs.Tracing.{TracesAs}
use Rattle.ov_answering.proofs.Answered.{ends_of_run, pace_of_run, text_answers, trace_of_run}
use Rattle.ov_answering.proofs.Beginning.{disk_said, ends_in_fault, opens_image, over_begun, over_refused, over_stands, tells_nothing}
use Rattle.ov_answering.proofs.EndingByScript.{fault_at_once}
use Rattle.ov_answering.proofs.Judging.{judged_open, judged_refused}
use Rattle.ov_answering.proofs.Pacing.{untouched}
use Rattle.ov_answering.proofs.Statuses.{ends_or_so, fault_no_read, fault_no_tag, fault_so, not_refused, script_seven, script_six}
use Rattle.ov_answering.proofs.Tracing.{untraced_fault}
use Rattle.ov_run.proofs.running.answer_over.Goals as goal

pub returns-in-Err-clause-status : goal.returns-in-Err-clause-status
returns-in-Err-clause-status g c =
    ends_or_so IsStoreStatus _ _ _ _ _ (fault_so c.in-Err.refused.fault) (inr script_six)
    (inr script_seven) c.put_fault.ensures.ends

pub returns-in-Ok-clause-text : goal.returns-in-Ok-clause-text
returns-in-Ok-clause-text g c = λ p opens.
    let stands = over_stands g.D.Disk.tells
    (plain_masters c.args.masters) c.args.mode p c.args.disk opens
    c.of-machine.result c.in-Ok.store c.of-machine.ensures.store c.of-machine.ensures.masters
    c.in-Ok.ensures.new c.in-Ok.ensures.found in
    text_answers g.D.Disk.tells g.I.Source.tells (plain_masters c.args.masters) p (g.I.Source.tells.left c.args.input.now) _ _ _ _ _ _ _ _ _ _
    (over_begun g.D.Disk.tells (plain_masters c.args.masters) c.args.mode p c.args.disk opens
    (g.I.Source.tells.left c.args.input.now) _ _ _
    c.of-machine.result c.in-Ok.store c.of-machine.ensures.store c.of-machine.ensures.masters
    c.in-Ok.ensures.new c.in-Ok.ensures.found c.in-Ok.ensures.any_moment
    c.into_disk.result
    (λ q stands. subst (λ (last : g.row.D.Denot). IfSome (g.I.Source.tells.left c.args.input.now)
    (λ text. EndsAs g.D.Disk.tells
    c.of-machine.result.kept.masters q text c.of-machine.result.disk last
    (g.O.Sink.tells.written c.args.out.now) (g.O.Sink.tells.written c.answer_script-code.new.out)
    c.answer_script-code.result (Holds g.D.Disk.tells
    c.of-machine.result.kept.masters q q c.of-machine.result.disk)))
    (sym c.into_disk.ensures) (ends_of_run g.D.Disk.tells g.I.Source.tells _ q _ _ _ _ _ _ _ _ _ _ _ (c.answer_script-code.ensures.text q stands))))
    (pace_of_run g.D.Disk.tells g.I.Source.tells _ p _ _ _ _ _ _ _ _ _ _ _
    (c.answer_script-code.ensures.text p stands))
    (subst (λ (k : Masters). IfSome (g.I.Source.tells.left c.args.input.now) (λ text. TracesAs k p text c.answer_script-code.result
    (g.O.Sink.tells.written c.args.out.now) (g.O.Sink.tells.written c.answer_script-code.new.out)
    (g.T.Sink.tells.written c.args.trace.now) (g.T.Sink.tells.written c.answer_script-code.new.trace))) c.of-machine.ensures.masters
    (trace_of_run g.D.Disk.tells g.I.Source.tells _ p _ _ _ _ _ _ _ _ _ _ _
    (c.answer_script-code.ensures.text p stands)))

pub returns-in-Err-clause-text : goal.returns-in-Err-clause-text
returns-in-Err-clause-text g c = λ p opens.
    text_answers g.D.Disk.tells g.I.Source.tells (plain_masters c.args.masters) p (g.I.Source.tells.left c.args.input.now) _ _ _ _ _ _ _ _ _ _
    (over_refused g.D.Disk.tells (plain_masters c.args.masters) c.args.mode p c.args.disk opens
    (g.I.Source.tells.left c.args.input.now) _ _ _
    c.in-Err.refused.disk c.in-Err.refused.fault c.in-Err.ensures.fault c.put_fault.ensures.ends
    c.in-Err.ensures.any_moment)
    (untouched g.I.Source.tells p _ _ _ _)
    (untraced_fault (plain_masters c.args.masters) p (g.I.Source.tells.left c.args.input.now) _ _ _ _
    (ends_in_fault c.in-Err.refused.fault _ _ _
    ((c.in-Err.ensures.fault opens.image opens.told).opens
    (opens_image g.D.Disk.tells (plain_masters c.args.masters) c.args.mode p c.args.disk opens))
    c.put_fault.ensures.ends))

pub returns-in-Ok-clause-script : goal.returns-in-Ok-clause-script
returns-in-Ok-clause-script g c = c.answer_script-code.ensures.script

pub returns-in-Err-clause-script : goal.returns-in-Err-clause-script
returns-in-Err-clause-script g c = fault_at_once (g.I.Source.tells.left c.args.input.now) _ _ _ c.in-Err.refused.fault c.put_fault.ensures.ends

pub returns-in-Ok-clause-image : goal.returns-in-Ok-clause-image
returns-in-Ok-clause-image g c = λ i told.
    judged_open (plain_masters c.args.masters) c.args.mode i _ _ _ _ _
    (c.in-Ok.ensures.found.0 i told).some
    (not_refused _ c.answer_script-code.ensures.status)

pub returns-in-Err-clause-image : goal.returns-in-Err-clause-image
returns-in-Err-clause-image g c = λ i told.
    judged_refused (plain_masters c.args.masters) c.args.mode i _ _ _ _ _ c.in-Err.refused.fault
    (c.in-Err.ensures.fault i told)
    c.put_fault.ensures.ends (refl, refl) (c.in-Err.ensures.untouched i told)

pub returns-in-Ok-clause-causes : goal.returns-in-Ok-clause-causes
returns-in-Ok-clause-causes g c =
    let causes = c.answer_script-code.ensures.causes in
    let answered = causes.disk in
    let begun = c.in-Ok.ensures.call in
    record {
      disk = record {
        same = grind (arith, common_steps);
        later = grind (arith, common_steps);
        rose = λ e. let rose = answered.rose e in grind (arith, common_steps);
      };
      read = causes.read;
      write = causes.write;
      tag = λ e.
          let wrong = causes.tag e in (
            wrong.0,
            tells_nothing g.D.Disk.tells
                (plain_masters c.args.masters) c.args.mode c.args.disk c.of-machine.result c.in-Ok.store
                c.of-machine.ensures.store c.of-machine.ensures.masters c.in-Ok.ensures.new.1
                c.in-Ok.ensures.found wrong.1,
          );
    }

pub returns-in-Err-clause-causes : goal.returns-in-Err-clause-causes
returns-in-Err-clause-causes g c =
    let ends = c.put_fault.ensures.ends in
    record {
      disk = record {
        same = c.in-Err.ensures.call.same;
        later = c.in-Err.ensures.call.later;
        rose = λ e. c.in-Err.ensures.call.rose (disk_said c.in-Err.refused.fault _ _ _ _ ends e);
      };
      read = λ e. absurd (fault_no_read c.in-Err.refused.fault _ _ _ _ ends e);
      write = λ e. inl (c.put_fault.ensures.put.write e);
      tag = λ e. absurd (fault_no_tag c.in-Err.refused.fault _ _ _ _ ends e);
    }
