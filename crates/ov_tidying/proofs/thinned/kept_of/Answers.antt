use Rattle.std.proofs.Common.{rules, ◌≡◌, ◌∙◌, ◌-◌, ◌≤◌, Err, List, ℕ, ap, arith, length, subst, sym}
use Rattle.std.proofs.lemmas.Result.{err_from_is_err_and}
use Rattle.ov_store.specs.declared.fault.BeginFault.TheVariants.{Disk as DiskFailed}
use Rattle.ov_replaying.proofs.Stores.{stays_for}
use Rattle.ov_tidying.specs.Taking.{KeepsPlaces}
use Rattle.ov_tidying.proofs.Steps.{begins_each, memory_alone, memory_of_store, ok_so}
use Rattle.ov_tidying.proofs.Taken.{all_taken}
use Rattle.ov_tidying.proofs.thinned.kept_of.Goals as goal

pub take_all-requires-clause-none : goal.take_all-requires-clause-none
take_all-requires-clause-none g c =
    begins_each g.D.Disk.tells c.args.store.now c.mode.result
    (c.epoch.result - c.updates-updates.result) c.in_ok-thin.thin (search rules) (search rules)
    (λ h serves i read. let many = c.updates-updates.ensures.count h serves i read in search rules)

pub returns-clause-kept : goal.returns-clause-kept
returns-clause-kept g c =
    let kept : KeepsPlaces g.D.Disk.tells c.args.store.now c.take_all.new.thin.kept =
    all_taken g.D.Disk.tells c.args.store.now c.updates-updates.result c.take_all.new.thin
    c.in_ok-take_all.ensures.taken
    (λ h serves i read. omega (arith, c.updates-updates.ensures.count h serves i read)) in
    ok_so c.copied.result _ _
    (λ copy same. subst (λ (places : List ℕ). KeepsPlaces g.D.Disk.tells c.args.store.now places)
    (sym (same ∙ c.kept.ensures)) kept)
    c.copied.ensures.copy

pub returns-clause-few : goal.returns-clause-few
returns-clause-few g c =
    ok_so c.copied.result _ _
    (λ copy same. subst (λ (places : List ℕ). length places ≤ c.args.store.now.catalogue.epoch)
    (sym (same ∙ c.kept.ensures)) (search rules))
    c.copied.ensures.copy

pub returns-clause-fault : goal.returns-clause-fault
returns-clause-fault g c =
    memory_of_store (g.D.Disk.tells.reads c.args.store.now.disk) c.copied.result
    c.copied.ensures.fault

pub returns-clause-stays : goal.returns-clause-stays
returns-clause-stays g c =
    stays_for g.D.Disk.tells c.args.store.now c.take_all.new.store _ _
    (λ is. absurd (memory_alone c.copied.result c.copied.ensures.fault is))
    c.take_all.ensures.stays

pub returns-in_err-take_all-clause-stays : goal.returns-in_err-take_all-clause-stays
returns-in_err-take_all-clause-stays g c =
    let p = err_from_is_err_and c.from_residual-in_err-take_all.result
    c.from_residual-in_err-take_all.ensures.1 in
    stays_for g.D.Disk.tells c.args.store.now c.take_all.new.store _ _
    (λ is. let failed : p.0 ≡ DiskFailed = cc (p.1, is) in
    c.in_err-take_all.was ∙ ap Err (sym p.2 ∙ failed))
    c.take_all.ensures.stays
