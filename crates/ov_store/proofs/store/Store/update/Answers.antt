use Rattle.std.proofs.Common.{◌≡◌, true, false, Ok, Err, refl, ◌∙◌, ap, subst, sym}
use Rattle.std.proofs.lemmas.Result.{err_from_is_err_and}
use Rattle.ov_images.specs.Images.{Keys}
use Rattle.ov_record.specs.Briefs.{brief}
use Rattle.ov_record.specs.Updates.{sealed_update}
use Rattle.ov_history.specs.Catalogue.{Catalogue}
use Rattle.ov_disk.specs.Disk.{Only, Told}
use Rattle.ov_store.specs.Carrying.{IsCarriedOver, LeavesStep}
use Rattle.ov_store.specs.Faults.{store_fault_of}
use Rattle.ov_store.specs.Opened.{Opened}
use Rattle.ov_store.specs.Updating.{LeavesEither, ServesMore, Updates}
use Rattle.ov_store.specs.declared.fault.StoreFault.{StoreFault}
use Rattle.ov_store.specs.declared.fault.StoreFault.TheVariants.{Disk as DiskFailed}
use Rattle.ov_store.proofs.Going.{safe_same, same_view}
use Rattle.ov_store.proofs.Looking.{store_of}
use Rattle.ov_store.proofs.Made.{answered, any_moment, carried, faulted, held_lies, not_begun, not_prepared, safe_after}
use Rattle.ov_store.proofs.Made.{safe_after_fault, safe_unmade, served, step_kept, step_not_begun}
use Rattle.ov_store.proofs.store.Store.update.Goals as goal

pub invariant_of-self : goal.invariant_of-self
invariant_of-self g c =
    let k : Keys = record {
      base_check = c.self.inside.base_check;
      surface = c.self.inside.surface.bytes;
    } in
    safe_same g.D.Disk.tells k c.self.inside.disk c.self.inside.failed c.self.inside.journal
    c.self.inside.placed c.prepare.new.self c.prepare.ensures.same c.self.invariant

pub returns-in_err-prepared-clause-any_moment : goal.returns-in_err-prepared-clause-any_moment
returns-in_err-prepared-clause-any_moment g c =
    let k : Keys = record {
      base_check = c.self.inside.base_check;
      surface = c.self.inside.surface.bytes;
    } in
    not_begun g.D.Disk.tells (sealed_update c.args.update) c.args.self.now
    (store_of g.D.Disk.tells c.self.inside.disk k c.prepare.new.self c.self.inside.failed)
    (ap (λ (s : Opened g.row.D.Denot). s.disk) c.self.view_is)

pub returns-in_err-prepared-clause-answer : goal.returns-in_err-prepared-clause-answer
returns-in_err-prepared-clause-answer g c =
    let tells = g.D.Disk.tells in
    let k : Keys = record {
      base_check = c.self.inside.base_check;
      surface = c.self.inside.surface.bytes;
    } in
    let u = sealed_update c.args.update in
    let why = c.in_err-prepared.field-0.0 in
    let later : Opened g.row.D.Denot = store_of tells c.self.inside.disk k c.prepare.new.self c.self.inside.failed in
    let same = same_view tells k c.self.inside.disk c.self.inside.failed c.self.inside.placed c.prepare.new.self
    c.prepare.ensures.same in
    let p = err_from_is_err_and c.from_residual.result c.from_residual.ensures.1 in
    rw p.1 (subst (λ (fault : StoreFault). Updates u c.args.self.now later (Err fault)) (sym p.2)
    (subst (λ (s : Opened g.row.D.Denot). Updates u s later (Err (store_fault_of why))) c.self.view_is (
      not_prepared c.self.inside.placed.catalogue (brief u) why c.in_err-prepared.ensures.fault,
      ap (λ (s : Opened g.row.D.Denot). s.catalogue) same,
      ap (λ (s : Opened g.row.D.Denot). s.stored) same,
    )))

pub update-requires-clause-stands : goal.update-requires-clause-stands
update-requires-clause-stands g c = c.self.invariant.stands c.if-self.false

pub update-requires-clause-lies : goal.update-requires-clause-lies
update-requires-clause-lies g c =
    let k : Keys = record {
      base_check = c.self.inside.base_check;
      surface = c.self.inside.surface.bytes;
    } in
    held_lies g.D.Disk.tells k c.self.inside.disk c.self.inside.failed c.self.inside.journal
    c.self.inside.placed c.prepare.new.self c.prepare.ensures.same c.self.invariant c.if-self.false
    c.known-2.ensures.files

pub invariant_of-self-in-Err-Memory : goal.invariant_of-self-in-Err-Memory
invariant_of-self-in-Err-Memory g c =
    let k : Keys = record {
      base_check = c.self.inside.base_check;
      surface = c.self.inside.surface.bytes;
    } in
    let kept = c.in-Err-Memory.ensures.memory (λ j. Err (c.in-Err-Memory.field-0-is j)) in
    safe_unmade g.D.Disk.tells k c.self.inside.disk c.self.inside.failed c.self.inside.journal
    c.self.inside.placed c.prepare.new.self c.prepare.ensures.same c.self.invariant c.update.new.disk
    c.update.new.journal c.update.new.self kept.0 kept.1 c.in-Err-Memory.ensures.same

pub returns-in-Err-Memory-clause-any_moment : goal.returns-in-Err-Memory-clause-any_moment
returns-in-Err-Memory-clause-any_moment g c =
    let k : Keys = record {
      base_check = c.self.inside.base_check;
      surface = c.self.inside.surface.bytes;
    } in
    let later : Opened g.row.D.Denot = store_of g.D.Disk.tells c.update.new.disk k c.update.new.self c.self.inside.failed in
    subst (λ (s : Opened g.row.D.Denot). LeavesEither g.D.Disk.tells (sealed_update c.args.update) s later) c.self.view_is
    (any_moment g.D.Disk.tells k c.self.inside.disk c.update.new.disk c.self.inside.failed c.if-self.false
    c.self.inside.journal c.self.inside.placed c.prepare.new.self c.prepare.ensures.same
    c.self.invariant (sealed_update c.args.update) c.in_ok-prepared.prepared
    c.in_ok-prepared.ensures.prepared c.update.ensures.any_moment later refl)

pub returns-in-Err-Disk-clause-any_moment : goal.returns-in-Err-Disk-clause-any_moment
returns-in-Err-Disk-clause-any_moment g c =
    let k : Keys = record {
      base_check = c.self.inside.base_check;
      surface = c.self.inside.surface.bytes;
    } in
    let later : Opened g.row.D.Denot = store_of g.D.Disk.tells c.update.new.disk k c.update.new.self true in
    subst (λ (s : Opened g.row.D.Denot). LeavesEither g.D.Disk.tells (sealed_update c.args.update) s later) c.self.view_is
    (any_moment g.D.Disk.tells k c.self.inside.disk c.update.new.disk c.self.inside.failed c.if-self.false
    c.self.inside.journal c.self.inside.placed c.prepare.new.self c.prepare.ensures.same
    c.self.invariant (sealed_update c.args.update) c.in_ok-prepared.prepared
    c.in_ok-prepared.ensures.prepared c.update.ensures.any_moment later refl)

pub returns-clause-any_moment : goal.returns-clause-any_moment
returns-clause-any_moment g c =
    let k : Keys = record {
      base_check = c.self.inside.base_check;
      surface = c.self.inside.surface.bytes;
    } in
    let later : Opened g.row.D.Denot = store_of g.D.Disk.tells c.update.new.disk k c.update.new.self c.self.inside.failed in
    subst (λ (s : Opened g.row.D.Denot). LeavesEither g.D.Disk.tells (sealed_update c.args.update) s later) c.self.view_is
    (any_moment g.D.Disk.tells k c.self.inside.disk c.update.new.disk c.self.inside.failed c.if-self.false
    c.self.inside.journal c.self.inside.placed c.prepare.new.self c.prepare.ensures.same
    c.self.invariant (sealed_update c.args.update) c.in_ok-prepared.prepared
    c.in_ok-prepared.ensures.prepared c.update.ensures.any_moment later refl)

pub invariant_of-self-in-Err-Disk : goal.invariant_of-self-in-Err-Disk
invariant_of-self-in-Err-Disk g c =
    let k : Keys = record {
      base_check = c.self.inside.base_check;
      surface = c.self.inside.surface.bytes;
    } in
    safe_after_fault g.D.Disk.tells k c.self.inside.disk c.update.new.disk c.self.inside.failed c.if-self.false
    c.self.inside.journal c.self.inside.placed c.prepare.new.self c.prepare.ensures.same
    c.self.invariant (sealed_update c.args.update) c.in_ok-prepared.prepared
    c.in_ok-prepared.ensures.prepared c.update.ensures.any_moment
    c.update.new.self c.in-Err-Disk.ensures.same c.update.new.journal c.in-Err-Disk.ensures.log

pub returns-in-Err-Disk-clause-answer : goal.returns-in-Err-Disk-clause-answer
returns-in-Err-Disk-clause-answer g c =
    let k : Keys = record {
      base_check = c.self.inside.base_check;
      surface = c.self.inside.surface.bytes;
    } in
    let later : Opened g.row.D.Denot = store_of g.D.Disk.tells c.update.new.disk k c.update.new.self true in
    subst (λ (s : Opened g.row.D.Denot). Updates (sealed_update c.args.update) s later (Err DiskFailed)) c.self.view_is
    (faulted g.D.Disk.tells k c.self.inside.disk c.update.new.disk c.self.inside.failed c.if-self.false
    c.self.inside.journal c.self.inside.placed c.prepare.new.self c.prepare.ensures.same
    c.self.invariant (sealed_update c.args.update) c.in_ok-prepared.prepared
    c.in_ok-prepared.ensures.prepared c.update.ensures.any_moment c.update.new.self c.in-Err-Disk.ensures.same)

pub invariant_of-self-2 : goal.invariant_of-self-2
invariant_of-self-2 g c =
    let k : Keys = record {
      base_check = c.self.inside.base_check;
      surface = c.self.inside.surface.bytes;
    } in
    safe_after g.D.Disk.tells k c.self.inside.disk c.update.new.disk c.self.inside.failed c.if-self.false
    c.self.inside.journal c.self.inside.placed c.prepare.new.self c.prepare.ensures.same
    c.self.invariant (sealed_update c.args.update) c.in_ok-prepared.prepared
    c.in_ok-prepared.ensures.prepared c.update.ensures.any_moment
    c.update.new.self c.in-Ok.ensures.made c.update.new.journal c.in-Ok.ensures.log.0
    c.in-Ok.ensures.log.1 c.in-Ok.ensures.stands

pub returns-clause-answer : goal.returns-clause-answer
returns-clause-answer g c =
    let k : Keys = record {
      base_check = c.self.inside.base_check;
      surface = c.self.inside.surface.bytes;
    } in
    let later : Opened g.row.D.Denot = store_of g.D.Disk.tells c.update.new.disk k c.update.new.self c.self.inside.failed in
    subst (λ (s : Opened g.row.D.Denot). Updates (sealed_update c.args.update) s later (Ok c.epoch.result)) c.self.view_is
    (answered g.D.Disk.tells k c.self.inside.disk c.update.new.disk c.self.inside.failed c.if-self.false
    c.self.inside.journal c.self.inside.placed c.prepare.new.self c.prepare.ensures.same
    c.self.invariant (sealed_update c.args.update) c.in_ok-prepared.prepared
    c.in_ok-prepared.ensures.prepared c.update.ensures.any_moment c.update.new.self c.in-Ok.ensures.made
    c.epoch.result
    (c.epoch.ensures ∙ ap (λ (x : Catalogue). x.epoch) c.catalogue.ensures.catalogue))

pub returns-clause-served : goal.returns-clause-served
returns-clause-served g c =
    let k : Keys = record {
      base_check = c.self.inside.base_check;
      surface = c.self.inside.surface.bytes;
    } in
    let later : Opened g.row.D.Denot = store_of g.D.Disk.tells c.update.new.disk k c.update.new.self c.self.inside.failed in
    subst (λ (s : Opened g.row.D.Denot). ServesMore g.D.Disk.tells (sealed_update c.args.update) s later) c.self.view_is
    (served g.D.Disk.tells k c.self.inside.disk c.update.new.disk c.self.inside.failed c.if-self.false
    c.self.inside.journal c.self.inside.placed c.prepare.new.self c.prepare.ensures.same
    c.self.invariant (sealed_update c.args.update) c.in_ok-prepared.prepared
    c.in_ok-prepared.ensures.prepared c.update.ensures.any_moment c.update.new.self c.in-Ok.ensures.made)

pub returns-in_err-prepared-clause-step : goal.returns-in_err-prepared-clause-step
returns-in_err-prepared-clause-step g c =
    let k : Keys = record {
      base_check = c.self.inside.base_check;
      surface = c.self.inside.surface.bytes;
    } in
    step_not_begun g.D.Disk.tells c.args.self.now
    (store_of g.D.Disk.tells c.self.inside.disk k c.prepare.new.self c.self.inside.failed)
    (subst (λ (s : Opened g.row.D.Denot). s.failed ≡ false → Told (g.D.Disk.tells.reads s.disk)
    (λ i. Only i (g.D.Disk.tells.may_leave s.disk))) c.self.view_is c.self.invariant.settled)
    (ap (λ (s : Opened g.row.D.Denot). s.disk) c.self.view_is)

pub returns-in-Err-Memory-clause-step : goal.returns-in-Err-Memory-clause-step
returns-in-Err-Memory-clause-step g c =
    let k : Keys = record {
      base_check = c.self.inside.base_check;
      surface = c.self.inside.surface.bytes;
    } in
    let later : Opened g.row.D.Denot = store_of g.D.Disk.tells c.update.new.disk k c.update.new.self c.self.inside.failed in
    subst (λ (s : Opened g.row.D.Denot). LeavesStep g.D.Disk.tells s later) c.self.view_is
    (step_kept g.D.Disk.tells k c.self.inside.disk c.update.new.disk c.self.inside.failed c.if-self.false
    c.self.inside.journal c.self.inside.placed c.prepare.new.self c.prepare.ensures.same
    c.self.invariant (sealed_update c.args.update) c.in_ok-prepared.prepared
    c.in_ok-prepared.ensures.prepared c.update.ensures.any_moment later refl)

pub returns-in-Err-Disk-clause-step : goal.returns-in-Err-Disk-clause-step
returns-in-Err-Disk-clause-step g c =
    let k : Keys = record {
      base_check = c.self.inside.base_check;
      surface = c.self.inside.surface.bytes;
    } in
    let later : Opened g.row.D.Denot = store_of g.D.Disk.tells c.update.new.disk k c.update.new.self true in
    subst (λ (s : Opened g.row.D.Denot). LeavesStep g.D.Disk.tells s later) c.self.view_is
    (step_kept g.D.Disk.tells k c.self.inside.disk c.update.new.disk c.self.inside.failed c.if-self.false
    c.self.inside.journal c.self.inside.placed c.prepare.new.self c.prepare.ensures.same
    c.self.invariant (sealed_update c.args.update) c.in_ok-prepared.prepared
    c.in_ok-prepared.ensures.prepared c.update.ensures.any_moment later refl)

pub returns-clause-step : goal.returns-clause-step
returns-clause-step g c =
    let k : Keys = record {
      base_check = c.self.inside.base_check;
      surface = c.self.inside.surface.bytes;
    } in
    let later : Opened g.row.D.Denot = store_of g.D.Disk.tells c.update.new.disk k c.update.new.self c.self.inside.failed in
    subst (λ (s : Opened g.row.D.Denot). LeavesStep g.D.Disk.tells s later) c.self.view_is
    (step_kept g.D.Disk.tells k c.self.inside.disk c.update.new.disk c.self.inside.failed c.if-self.false
    c.self.inside.journal c.self.inside.placed c.prepare.new.self c.prepare.ensures.same
    c.self.invariant (sealed_update c.args.update) c.in_ok-prepared.prepared
    c.in_ok-prepared.ensures.prepared c.update.ensures.any_moment later refl)

pub returns-clause-carried : goal.returns-clause-carried
returns-clause-carried g c =
    let k : Keys = record {
      base_check = c.self.inside.base_check;
      surface = c.self.inside.surface.bytes;
    } in
    let later : Opened g.row.D.Denot = store_of g.D.Disk.tells c.update.new.disk k c.update.new.self c.self.inside.failed in
    subst (λ (s : Opened g.row.D.Denot). IsCarriedOver g.D.Disk.tells s later) c.self.view_is
    (carried g.D.Disk.tells k c.self.inside.disk c.update.new.disk c.self.inside.failed c.if-self.false
    c.self.inside.journal c.self.inside.placed c.prepare.new.self c.prepare.ensures.same
    c.self.invariant (sealed_update c.args.update) c.in_ok-prepared.prepared
    c.in_ok-prepared.ensures.prepared c.update.ensures.any_moment c.update.new.self
    c.in-Ok.ensures.made c.update.new.journal c.in-Ok.ensures.log.0 c.in-Ok.ensures.log.1
    c.in-Ok.ensures.stands)
