use Rattle.std.proofs.Common.{◌∙◌, Err, ap, length, refl}
use Rattle.ov_history.proofs.Showing.{history_is_shown}
use Rattle.ov_history.specs.Catalogue.{Catalogue}
use Rattle.ov_replaying.proofs.Endings.{fault_low, line_low}
use Rattle.ov_tidying.proofs.Copying.{call_failed, copy_fault, fault_causes, fault_ends, some_fault, whole_causes, whole_ends}
use Rattle.ov_tidying.proofs.Endings.{fault_no_zero}
use Rattle.ov_tidying.proofs.written.copy_all.Goals as goal

pub returns-in-Ok-clause-copied : goal.returns-in-Ok-clause-copied
returns-in-Ok-clause-copied g c = λ h serves thin i read.
    let kept = c.args.kept.now in
    let then = c.copy.ensures.served h serves in
    let shown = history_is_shown c.copy.new.old.keys.surface c.copy.new.old.catalogue h then.catalogue in
    whole_ends _ _ c.put_tidied.result g.E.Disk.tells h kept c.copy.new.new c.updates.result
    (length kept) c.epoch.result
    (c.updates.ensures.count h then i (c.copy.ensures.untouched.reads_same ∙ read))
    refl
    (c.epoch.ensures ∙ ap (λ (x : Catalogue). x.epoch) c.state.ensures ∙ shown.epoch)
    c.put_tidied.ensures.ends (c.in-Ok.ensures.copied h serves thin i read)

pub returns-in-Err-clause-copied : goal.returns-in-Err-clause-copied
returns-in-Err-clause-copied g c = λ h serves thin i read.
    fault_ends _ _ c.put_fault.result g.E.Disk.tells h c.args.kept.now c.copy.new.new
    c.fault_of.result
    (copy_fault g.D.Disk.tells g.E.Disk.tells c.args.old.now c.args.kept.now c.copy.new.new
    c.in-Err.fault c.fault_of.result c.fault_of.ensures c.in-Err.ensures.copied h serves thin i read)
    c.put_fault.ensures.ends

pub returns-in-Ok-clause-opened : goal.returns-in-Ok-clause-opened
returns-in-Ok-clause-opened g c = λ i read.
    line_low _ _ _ c.put_tidied.result c.put_tidied.ensures.ends

pub returns-in-Err-clause-opened : goal.returns-in-Err-clause-opened
returns-in-Err-clause-opened g c = λ i read.
    fault_low c.fault_of.result _ _ c.put_fault.result
    (some_fault g.D.Disk.tells g.E.Disk.tells c.args.old.now c.args.kept.now c.copy.new.new
    c.in-Err.fault c.fault_of.result c.fault_of.ensures c.in-Err.ensures.copied c.requires.thinned
    i read)
    c.put_fault.ensures.ends

pub returns-in-Ok-clause-stays : goal.returns-in-Ok-clause-stays
returns-in-Ok-clause-stays g c = record {
  kept = c.copy.ensures.stays;
  untouched = c.copy.ensures.untouched;
  served = c.copy.ensures.served;
  call = c.copy.ensures.calls.0;
}

pub returns-in-Err-clause-stays : goal.returns-in-Err-clause-stays
returns-in-Err-clause-stays g c = record {
  kept = c.copy.ensures.stays;
  untouched = c.copy.ensures.untouched;
  served = c.copy.ensures.served;
  call = c.copy.ensures.calls.0;
}

pub returns-in-Ok-clause-causes : goal.returns-in-Ok-clause-causes
returns-in-Ok-clause-causes g c =
    whole_causes _ _ c.put_tidied.result _ _ c.put_tidied.ensures.put.write _
    c.put_tidied.ensures.ends

pub returns-in-Err-clause-causes : goal.returns-in-Err-clause-causes
returns-in-Err-clause-causes g c =
    fault_causes _ _ c.put_fault.result _ _ c.put_fault.ensures.put.write c.fault_of.result
    (λ failed. c.in-Err.ensures.causes
    (ap Err (call_failed c.in-Err.fault c.fault_of.result c.fault_of.ensures failed)))
    c.put_fault.ensures.ends

pub returns-in-Ok-clause-step : goal.returns-in-Ok-clause-step
returns-in-Ok-clause-step g c = λ zero. c.in-Ok.ensures.step

pub returns-in-Err-clause-step : goal.returns-in-Err-clause-step
returns-in-Err-clause-step g c = λ zero.
    absurd (fault_no_zero c.fault_of.result _ _ c.put_fault.result c.put_fault.ensures.ends zero)
