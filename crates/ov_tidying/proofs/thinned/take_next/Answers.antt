use Rattle.std.proofs.Common.{ℕ, ◌≡◌, ◌∙◌, Err, List, ap, subst, sym}
use Rattle.std.proofs.lemmas.Result.{err_from_is_err_and}
use Rattle.ov_history.specs.Catalogue.{numbered_at}
use Rattle.ov_record.specs.Briefs.{plain_brief}
use Rattle.ov_store.specs.declared.fault.BeginFault.TheVariants.{Disk as DiskFailed}
use Rattle.ov_thinning.specs.Notes.{taken_next}
use Rattle.ov_replaying.proofs.Stores.{stays_for}
use Rattle.ov_tidying.proofs.Steps.{made_fault, made_quiet, on_so}
use Rattle.ov_tidying.proofs.Taken.{next_taken, none_taken, taken_few, told_taken}
use Rattle.ov_tidying.proofs.thinned.take_next.Goals as goal

pub returns-in-Some-clause-taken : goal.returns-in-Some-clause-taken
returns-in-Some-clause-taken g c =
    let t = c.args.thin.now in
    let reads = rw c.in-Some.is at c.in_ok-update.ensures.update in
    on_so c.take.result _ _
    (λ made. next_taken g.D.Disk.tells c.args.store.now c.args.i t c.in-Some.update reads
    c.take.new.thin
    (subst (λ (master : List ℕ). c.take.new.thin
    ≡ taken_next master t (numbered_at t.catalogue (plain_brief c.in-Some.update)))
    c.requires.master made))
    c.take.ensures.taken

pub returns-in-Some-clause-few : goal.returns-in-Some-clause-few
returns-in-Some-clause-few g c =
    on_so c.take.result _ _
    (λ made. taken_few c.args.surface.now.bytes c.args.thin.now
    (numbered_at c.args.thin.now.catalogue (plain_brief c.in-Some.update)) c.take.new.thin made)
    c.take.ensures.taken

-- an update that isn't taken is none of a disk that tells its bytes
pub returns-in-Some-clause-fault : goal.returns-in-Some-clause-fault
returns-in-Some-clause-fault g c =
    let t = c.args.thin.now in
    let reads = rw c.in-Some.is at c.in_ok-update.ensures.update in
    made_fault (g.D.Disk.tells.reads c.args.store.now.disk) c.args.surface.now.bytes t.catalogue
    (plain_brief c.in-Some.update) c.take.new.thin.catalogue c.take.result
    (λ untaken. told_taken g.D.Disk.tells c.args.store.now c.args.i t c.in-Some.update reads
    c.requires.taken untaken)
    c.take.ensures.made

pub returns-in-None-clause-taken : goal.returns-in-None-clause-taken
returns-in-None-clause-taken g c =
    none_taken g.D.Disk.tells c.args.store.now c.args.i c.args.thin.now
    (rw c.in-None.is at c.in_ok-update.ensures.update)

-- ---- what the store is like then

pub returns-in-Some-clause-stays : goal.returns-in-Some-clause-stays
returns-in-Some-clause-stays g c =
    stays_for g.D.Disk.tells c.args.store.now c.read_update.new.store _ _
    (λ is. absurd (made_quiet c.args.surface.now.bytes c.args.thin.now.catalogue
    (plain_brief c.in-Some.update) c.take.new.thin.catalogue c.take.result c.take.ensures.made is))
    c.read_update.ensures.stays

pub returns-in-None-clause-stays : goal.returns-in-None-clause-stays
returns-in-None-clause-stays g c =
    stays_for g.D.Disk.tells c.args.store.now c.read_update.new.store _ _ (λ is. absurd (cc is))
    c.read_update.ensures.stays

pub returns-in_err-update-clause-stays : goal.returns-in_err-update-clause-stays
returns-in_err-update-clause-stays g c =
    let p = err_from_is_err_and c.from_residual.result c.from_residual.ensures.1 in
    stays_for g.D.Disk.tells c.args.store.now c.read_update.new.store _ _
    (λ is. let failed : p.0 ≡ DiskFailed = cc (p.1, is) in
    c.in_err-update.was ∙ ap Err (sym p.2 ∙ failed))
    c.read_update.ensures.stays
