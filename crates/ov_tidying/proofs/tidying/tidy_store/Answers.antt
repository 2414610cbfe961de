use Rattle.std.proofs.Common.{ℕ, ◌∙◌, Err, List, ap, arith, inl, inr, refl, subst, sym}
use Rattle.ov_base.specs.declared.key.Key.{Key}
use Rattle.ov_images.specs.Images.{Keys}
use Rattle.ov_store.specs.Opened.{Opened}
use Rattle.ov_replaying.proofs.Endings.{disk_call, fault_call, fault_line_found, fault_low}
use Rattle.ov_replaying.proofs.Stores.{stays_for, stays_then, told_fault}
use Rattle.ov_tidying.proofs.Endings.{both_then, fault_by, fault_early, fault_on_both}
use Rattle.ov_tidying.proofs.Reread.{keys_stay, made_then, thinned_then}
use Rattle.ov_tidying.specs.Taking.{KeepsPlaces}
use Rattle.ov_tidying.proofs.tidying.tidy_store.Goals as goal

pub kept_of-requires : goal.kept_of-requires
kept_of-requires g c =
    ap (λ (x : Key). x.bytes) c.new-surface.ensures ∙ sym (ap (λ (x : Keys). x.surface) c.requires)

pub write_store-requires-clause-keys : goal.write_store-requires-clause-keys
write_store-requires-clause-keys g c =
    keys_stay g.D.Disk.tells g.E.Disk.tells c.args.old.now c.kept_of.new.store _ c.in-Ok.ensures.stays
    ∙ c.requires

pub write_store-requires-clause-few : goal.write_store-requires-clause-few
write_store-requires-clause-few g c =
    let epoch = ap (λ (s : Opened _). s.catalogue.epoch) c.in-Ok.ensures.stays.kept in
    omega (arith, epoch, c.in-Ok.ensures.few)

pub write_store-requires-clause-thinned : goal.write_store-requires-clause-thinned
write_store-requires-clause-thinned g c =
    thinned_then g.D.Disk.tells g.E.Disk.tells c.args.old.now c.kept_of.new.store _
    c.in-Ok.ensures.stays c.deref.result.now
    (subst (λ (places : List ℕ). KeepsPlaces g.D.Disk.tells c.args.old.now places)
    (sym c.deref.ensures.value) c.in-Ok.ensures.kept)
    c.known.ensures.0 c.known.ensures.1

pub returns-in-Ok-clause-made : goal.returns-in-Ok-clause-made
returns-in-Ok-clause-made g c =
    made_then g.D.Disk.tells g.E.Disk.tells c.args.old.now c.kept_of.new.store _
    c.in-Ok.ensures.stays c.deref.result.now
    (subst (λ (places : List ℕ). KeepsPlaces g.D.Disk.tells c.args.old.now places)
    (sym c.deref.ensures.value) c.in-Ok.ensures.kept)
    c.write_store.new.old c.args.new c.write_store.result.1 c.write_store.result.0 _ _ _ c.write_store.ensures.made

pub returns-in-Err-clause-made : goal.returns-in-Err-clause-made
returns-in-Err-clause-made g c = λ h serves i read j read_new.
    let is = told_fault (g.D.Disk.tells.reads c.args.old.now.disk) i read c.in-Err.fault
    c.in-Err.ensures.fault in record {
      made = inr (fault_early _ _ c.put_fault.result c.in-Err.fault is c.put_fault.ensures.ends, refl);
      ends = fault_by _ _ c.put_fault.result _ (λ six. inl (c.put_fault.ensures.put.write six)) _
          c.in-Err.fault is c.put_fault.ensures.ends
          (λ failed. inr (inl (c.in-Err.ensures.stays.call.3 (ap Err failed))));
    }

pub returns-in-Ok-clause-opened : goal.returns-in-Ok-clause-opened
returns-in-Ok-clause-opened g c = λ i read.
    c.write_store.ensures.opened i (c.in-Ok.ensures.stays.untouched.reads_same ∙ read)

pub returns-in-Err-clause-opened : goal.returns-in-Err-clause-opened
returns-in-Err-clause-opened g c = λ i read.
    fault_low c.in-Err.fault _ _ c.put_fault.result
    (told_fault (g.D.Disk.tells.reads c.args.old.now.disk) i read c.in-Err.fault
    c.in-Err.ensures.fault)
    c.put_fault.ensures.ends

pub returns-in-Ok-clause-stays : goal.returns-in-Ok-clause-stays
returns-in-Ok-clause-stays g c =
    stays_then g.D.Disk.tells c.args.old.now c.kept_of.new.store c.write_store.new.old _ ⊥
    c.in-Ok.ensures.stays c.write_store.ensures.stays

pub returns-in-Err-clause-stays : goal.returns-in-Err-clause-stays
returns-in-Err-clause-stays g c =
    stays_for g.D.Disk.tells c.args.old.now c.kept_of.new.store _ ⊥ (λ none. absurd none)
    c.in-Err.ensures.stays

pub returns-in-Ok-clause-causes : goal.returns-in-Ok-clause-causes
returns-in-Ok-clause-causes g c =
    both_then g.D.Disk.tells g.E.Disk.tells c.args.old.now.disk c.kept_of.new.store.disk
    c.write_store.new.old.disk c.args.new c.write_store.result.1 _ c.write_store.result.0 _
    (disk_call g.D.Disk.tells c.args.old.now c.kept_of.new.store _ c.in-Ok.ensures.stays.call)
    c.write_store.ensures.causes

pub returns-in-Err-clause-causes : goal.returns-in-Err-clause-causes
returns-in-Err-clause-causes g c =
    fault_on_both g.D.Disk.tells g.E.Disk.tells c.args.old.now.disk c.kept_of.new.store.disk
    c.args.new _ _ c.put_fault.result _ c.put_fault.ensures.put.write c.in-Err.fault
    (fault_call g.D.Disk.tells c.args.old.now c.kept_of.new.store _ c.in-Err.fault
    (λ is. ap Err is) c.in-Err.ensures.stays.call)
    c.put_fault.ensures.ends

pub returns-in-Err-clause-status : goal.returns-in-Err-clause-status
returns-in-Err-clause-status g c =
    inr (fault_line_found c.in-Err.fault _ _ _ c.put_fault.ensures.ends)
