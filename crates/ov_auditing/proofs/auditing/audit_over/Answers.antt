use Rattle.std.proofs.Common.{◌⊎◌, arith, inl, inr, subst, sym, ⊎_elim}
use Rattle.ov_base.specs.Causes.{Rose}
use Rattle.ov_answering.specs.Ending.{EndsFor, LeavesAsAtStart}
use Rattle.ov_images.specs.Images.{keys_of}
use Rattle.ov_machine.specs.Machine.{plain_masters}
use Rattle.ov_store.proofs.Opening.{both_quiet}
use Rattle.ov_replaying.proofs.Endings.{ends_then, fault_ends, fault_line_found}
use Rattle.ov_replaying.proofs.Judged.{judged_open}
use Rattle.ov_auditing.proofs.Endings.{fault_tells}
use Rattle.ov_replaying.proofs.Judged.{judged_refused, opens_kept}
use Rattle.ov_auditing.proofs.Endings.{more_faults}
use Rattle.ov_auditing.proofs.auditing.audit_over.Goals as goal

pub audit_store-code-requires : goal.audit_store-code-requires
audit_store-code-requires g c = c.in-Ok.ensures.opened.keys_are

pub returns-in-Ok-clause-tells : goal.returns-in-Ok-clause-tells
returns-in-Ok-clause-tells g c = λ i read p h right keeps.
    let opened = c.in-Ok.ensures.opened in
    more_faults c.args.asked.now (plain_masters c.args.masters) h _ _ c.audit_store-code.result
    (Rose (g.O.Sink.tells.faults c.args.out.now)
    (g.O.Sink.tells.faults c.audit_store-code.new.out)
    ⊎ Rose (g.D.Disk.tells.faults c.in-Ok.store.disk)
    (g.D.Disk.tells.faults c.audit_store-code.new.store.disk)) _
    (⊎_elim (λ out. inl out)
    (λ rose. inr (subst (λ (d : g.row.D.Denot).
    Rose (g.D.Disk.tells.faults c.args.disk) (g.D.Disk.tells.faults d)) (sym c.close.ensures)
    (omega (arith, c.in-Ok.ensures.call.later, rose)))))
    (c.audit_store-code.ensures.tells h (opened.each i read p h right keeps) i
    (opened.same i read))

pub returns-in-Err-clause-tells : goal.returns-in-Err-clause-tells
returns-in-Err-clause-tells g c = λ i read p h right keeps.
    fault_tells c.args.asked.now (plain_masters c.args.masters) h _ _ c.put_fault.result _
    (λ six. inl (c.put_fault.ensures.put.write six)) c.in-Err.refused.fault
    ((c.in-Err.ensures.fault i read).opens
    (opens_kept (plain_masters c.args.masters) p h i right keeps))
    c.put_fault.ensures.ends (λ failed. inr (c.in-Err.ensures.call.rose failed))

pub returns-in-Ok-clause-image : goal.returns-in-Ok-clause-image
returns-in-Ok-clause-image g c = λ i read.
    let opened = c.in-Ok.ensures.opened in
    judged_open (plain_masters c.args.masters) i _ _ c.audit_store-code.result
    (opened.opens i read) (c.audit_store-code.ensures.opened i (opened.same i read))

pub returns-in-Err-clause-image : goal.returns-in-Err-clause-image
returns-in-Err-clause-image g c = λ i read.
    judged_refused (plain_masters c.args.masters) i _ _ c.put_fault.result c.in-Err.refused.fault
    (c.in-Err.ensures.fault i read) c.put_fault.ensures.ends

pub returns-in-Ok-clause-quiet : goal.returns-in-Ok-clause-quiet
returns-in-Ok-clause-quiet g c =
    subst (λ (d : g.row.D.Denot). LeavesAsAtStart g.D.Disk.tells c.args.disk d)
    (sym c.close.ensures)
    (both_quiet g.D.Disk.tells (keys_of (plain_masters c.args.masters))
    c.in-Ok.store.catalogue.mode c.args.disk c.in-Ok.store.disk
    c.audit_store-code.new.store.disk c.in-Ok.ensures.quiet
    c.audit_store-code.ensures.stays.untouched.any_moment)

pub returns-in-Ok-clause-causes : goal.returns-in-Ok-clause-causes
returns-in-Ok-clause-causes g c =
    subst (λ (d : g.row.D.Denot). EndsFor g.D.Disk.tells c.args.disk d c.audit_store-code.result ⊥
    (Rose (g.O.Sink.tells.faults c.args.out.now)
    (g.O.Sink.tells.faults c.audit_store-code.new.out)) ⊥)
    (sym c.close.ensures)
    (ends_then g.D.Disk.tells c.args.disk c.in-Ok.store.disk c.audit_store-code.new.store.disk _
    c.audit_store-code.result _ c.in-Ok.ensures.call c.audit_store-code.ensures.causes)

pub returns-in-Err-clause-causes : goal.returns-in-Err-clause-causes
returns-in-Err-clause-causes g c =
    fault_ends g.D.Disk.tells c.args.disk c.in-Err.refused.disk _ _ c.put_fault.result _
    c.put_fault.ensures.put.write c.in-Err.refused.fault c.in-Err.ensures.call
    c.put_fault.ensures.ends

pub returns-in-Err-clause-status : goal.returns-in-Err-clause-status
returns-in-Err-clause-status g c =
    fault_line_found c.in-Err.refused.fault _ _ _ c.put_fault.ensures.ends
