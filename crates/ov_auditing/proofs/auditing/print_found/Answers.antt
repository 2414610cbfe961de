use Rattle.std.proofs.Common.{◌≡◌, ◌∙◌, Err, ap, inl, inr, refl, sym, arith}
use Rattle.ov_base.specs.declared.key.Key.{Key}
use Rattle.ov_history.specs.Catalogue.{Catalogue}
use Rattle.ov_images.specs.Images.{Keys}
use Rattle.ov_machine.specs.Machine.{plain_masters}
use Rattle.ov_answering.proofs.Beginning.{disk_said}
use Rattle.ov_answering.proofs.Statuses.{not_code_or}
use Rattle.ov_auditing.specs.Exposed.{numbers_in}
use Rattle.ov_replaying.proofs.Endings.{disk_call, fault_call, fault_ends, fault_low}
use Rattle.ov_auditing.proofs.Endings.{fault_tells, found_tells}
use Rattle.ov_replaying.proofs.Endings.{fault_line_found, line_ends, line_found, line_low}
use Rattle.ov_replaying.proofs.Stores.{stays_for}
use Rattle.ov_replaying.proofs.Stores.{told_fault}
use Rattle.ov_auditing.proofs.auditing.print_found.Goals as goal

pub findings_of-requires-clause-master : goal.findings_of-requires-clause-master
findings_of-requires-clause-master g c =
    ap (λ (x : Key). x.bytes) c.new-surface.ensures
    ∙ sym (ap (λ (x : Keys). x.surface) c.requires.keys)

pub findings_of-requires-clause-members : goal.findings_of-requires-clause-members
findings_of-requires-clause-members g c =
    (numbers_in c.args.store.now.catalogue.users c.args.asked.now.names, c.requires.named.1)

pub returns-in-Ok-clause-tells : goal.returns-in-Ok-clause-tells
returns-in-Ok-clause-tells g c = λ h serves i read.
    found_tells c.args.asked.now (plain_masters c.args.masters.now) h _ _ c.put_findings.result _
    (λ six. inl (c.put_findings.ensures.put.write six)) g.D.Disk.tells c.args.store.now
    c.requires.keys serves c.epoch-epoch.result
    (c.epoch-epoch.ensures ∙ ap (λ (x : Catalogue). x.epoch) c.state.ensures) i read c.args.users c.in-Ok.findings
    c.requires.named c.in-Ok.ensures.found c.put_findings.ensures.ends

pub returns-in-Err-clause-tells : goal.returns-in-Err-clause-tells
returns-in-Err-clause-tells g c = λ h serves i read.
    fault_tells c.args.asked.now (plain_masters c.args.masters.now) h _ _ c.put_fault.result _
    (λ six. inl (c.put_fault.ensures.put.write six)) c.in-Err.fault
    (told_fault (g.D.Disk.tells.reads c.args.store.now.disk) i read c.in-Err.fault
    c.in-Err.ensures.fault)
    c.put_fault.ensures.ends (λ failed. inr (c.in-Err.ensures.stays.call.3 (ap Err failed)))

pub returns-in-Ok-clause-opened : goal.returns-in-Ok-clause-opened
returns-in-Ok-clause-opened g c = λ i read.
    line_low _ _ _ c.put_findings.result c.put_findings.ensures.ends

pub returns-in-Err-clause-opened : goal.returns-in-Err-clause-opened
returns-in-Err-clause-opened g c = λ i read.
    fault_low c.in-Err.fault _ _ c.put_fault.result
    (told_fault (g.D.Disk.tells.reads c.args.store.now.disk) i read c.in-Err.fault
    c.in-Err.ensures.fault)
    c.put_fault.ensures.ends

pub returns-in-Ok-clause-stays : goal.returns-in-Ok-clause-stays
returns-in-Ok-clause-stays g c =
    stays_for g.D.Disk.tells c.args.store.now c.findings_of.new.store _
    (c.put_findings.result ≡ 4)
    (λ e. absurd (not_code_or _ 0 4 _ _ _ c.put_findings.ensures.ends (λ z. omega arith)
    (λ z. omega arith) (λ z. omega arith) e))
    c.in-Ok.ensures.stays

pub returns-in-Err-clause-stays : goal.returns-in-Err-clause-stays
returns-in-Err-clause-stays g c =
    stays_for g.D.Disk.tells c.args.store.now c.findings_of.new.store _ (c.put_fault.result ≡ 4)
    (λ e. ap Err (disk_said c.in-Err.fault _ _ _ _ c.put_fault.ensures.ends e))
    c.in-Err.ensures.stays

pub returns-in-Ok-clause-causes : goal.returns-in-Ok-clause-causes
returns-in-Ok-clause-causes g c =
    line_ends g.D.Disk.tells c.args.store.now.disk c.findings_of.new.store.disk _ _
    c.put_findings.result _ c.put_findings.ensures.put.write _ _
    (disk_call g.D.Disk.tells c.args.store.now c.findings_of.new.store _
    c.in-Ok.ensures.stays.call)
    c.put_findings.ensures.ends

pub returns-in-Err-clause-causes : goal.returns-in-Err-clause-causes
returns-in-Err-clause-causes g c =
    fault_ends g.D.Disk.tells c.args.store.now.disk c.findings_of.new.store.disk _ _
    c.put_fault.result _ c.put_fault.ensures.put.write c.in-Err.fault
    (fault_call g.D.Disk.tells c.args.store.now c.findings_of.new.store _ c.in-Err.fault
    (λ is. ap Err is) c.in-Err.ensures.stays.call)
    c.put_fault.ensures.ends

pub returns-in-Ok-clause-status : goal.returns-in-Ok-clause-status
returns-in-Ok-clause-status g c =
    line_found _ _ _ _ c.put_findings.ensures.ends

pub returns-in-Err-clause-status : goal.returns-in-Err-clause-status
returns-in-Err-clause-status g c =
    fault_line_found c.in-Err.fault _ _ _ c.put_fault.ensures.ends
