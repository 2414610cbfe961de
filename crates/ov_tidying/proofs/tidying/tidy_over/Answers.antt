use Rattle.std.proofs.Common.{arith, inl, inr, refl, subst, sym, ⊎_elim}
use Rattle.ov_base.specs.Causes.{Rose}
use Rattle.ov_answering.specs.Ending.{LeavesAsAtStart}
use Rattle.ov_images.specs.Images.{keys_of}
use Rattle.ov_machine.specs.Machine.{plain_masters}
use Rattle.ov_store.proofs.Opening.{both_quiet}
use Rattle.ov_replaying.proofs.Endings.{fault_line_found}
use Rattle.ov_replaying.proofs.Judged.{judged_open, judged_refused, opens_kept}
use Rattle.ov_tidying.proofs.Endings.{both_then, fault_by, fault_early, fault_on_both}
use Rattle.ov_tidying.proofs.Shorter.{tidies_of}
use Rattle.ov_tidying.specs.Promises.{EndsOnBoth}
use Rattle.ov_tidying.proofs.tidying.tidy_over.Goals as goal

pub tidy_store-code-requires : goal.tidy_store-code-requires
tidy_store-code-requires g c = c.in-Ok.ensures.opened.keys_are

pub returns-in-Ok-clause-tells : goal.returns-in-Ok-clause-tells
returns-in-Ok-clause-tells g c = λ i read j read_new p h right keeps.
    let opened = c.in-Ok.ensures.opened in
    tidies_of g.E.Disk.tells (plain_masters c.args.masters) p h right c.tidy_store-code.result.0 _ _
    c.args.new c.tidy_store-code.result.1 c.in-Ok.store.keys opened.keys_are _ _
    (⊎_elim (λ out. inl out)
    (λ disks. inr (⊎_elim
    (λ (rose : Rose (g.D.Disk.tells.faults c.in-Ok.store.disk)
    (g.D.Disk.tells.faults c.tidy_store-code.new.old.disk)).
    inl (subst (λ (d : g.row.D.Denot).
    Rose (g.D.Disk.tells.faults c.args.old) (g.D.Disk.tells.faults d)) (sym c.close.ensures)
    (omega (arith, c.in-Ok.ensures.call.later, rose))))
    (λ rose. inr rose) disks)))
    (c.tidy_store-code.ensures.made h (opened.each i read p h right keeps) i (opened.same i read) j
    read_new)

pub returns-in-Err-clause-tells : goal.returns-in-Err-clause-tells
returns-in-Err-clause-tells g c = λ i read j read_new p h right keeps.
    let is = (c.in-Err.ensures.fault i read).opens
    (opens_kept (plain_masters c.args.masters) p h i right keeps) in record {
      made = inr (
        fault_early _ _ c.put_fault.result c.in-Err.refused.fault is c.put_fault.ensures.ends,
        refl,
      );
      ends = fault_by _ _ c.put_fault.result _ (λ six. inl (c.put_fault.ensures.put.write six)) _
          c.in-Err.refused.fault is c.put_fault.ensures.ends
          (λ failed. inr (inl (c.in-Err.ensures.call.rose failed)));
    }

pub returns-in-Ok-clause-image : goal.returns-in-Ok-clause-image
returns-in-Ok-clause-image g c = λ i read.
    let opened = c.in-Ok.ensures.opened in (
      judged_open (plain_masters c.args.masters) i _ _ c.tidy_store-code.result.0 (opened.opens i read)
          (c.tidy_store-code.ensures.opened i (opened.same i read)),
      λ none. absurd (none (opened.opens i read)),
    )

pub returns-in-Err-clause-image : goal.returns-in-Err-clause-image
returns-in-Err-clause-image g c = λ i read. (
  judged_refused (plain_masters c.args.masters) i _ _ c.put_fault.result c.in-Err.refused.fault
      (c.in-Err.ensures.fault i read) c.put_fault.ensures.ends,
  λ none. refl,
)

pub returns-in-Ok-clause-quiet : goal.returns-in-Ok-clause-quiet
returns-in-Ok-clause-quiet g c =
    subst (λ (d : g.row.D.Denot). LeavesAsAtStart g.D.Disk.tells c.args.old d)
    (sym c.close.ensures)
    (both_quiet g.D.Disk.tells (keys_of (plain_masters c.args.masters))
    c.in-Ok.store.catalogue.mode c.args.old c.in-Ok.store.disk
    c.tidy_store-code.new.old.disk c.in-Ok.ensures.quiet
    c.tidy_store-code.ensures.stays.untouched.any_moment)

pub returns-in-Ok-clause-causes : goal.returns-in-Ok-clause-causes
returns-in-Ok-clause-causes g c =
    subst (λ (d : g.row.D.Denot). EndsOnBoth g.D.Disk.tells g.E.Disk.tells c.args.old d c.args.new
    c.tidy_store-code.result.1 c.tidy_store-code.result.0 ⊥
    (Rose (g.O.Sink.tells.faults c.args.out.now) (g.O.Sink.tells.faults c.tidy_store-code.new.out)))
    (sym c.close.ensures)
    (both_then g.D.Disk.tells g.E.Disk.tells c.args.old c.in-Ok.store.disk
    c.tidy_store-code.new.old.disk c.args.new c.tidy_store-code.result.1 _ c.tidy_store-code.result.0 _
    c.in-Ok.ensures.call c.tidy_store-code.ensures.causes)

pub returns-in-Err-clause-causes : goal.returns-in-Err-clause-causes
returns-in-Err-clause-causes g c =
    fault_on_both g.D.Disk.tells g.E.Disk.tells c.args.old c.in-Err.refused.disk c.args.new _ _
    c.put_fault.result _ c.put_fault.ensures.put.write c.in-Err.refused.fault
    c.in-Err.ensures.call c.put_fault.ensures.ends

pub returns-in-Err-clause-status : goal.returns-in-Err-clause-status
returns-in-Err-clause-status g c =
    inr (fault_line_found c.in-Err.refused.fault _ _ _ c.put_fault.ensures.ends)
