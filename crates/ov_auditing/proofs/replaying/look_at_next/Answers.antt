use Rattle.std.proofs.Common.{◌≡◌, ◌∙◌, ℕ, Err, List, ap, subst, sym}
use Rattle.std.specs.Prelude.{⊤}
use Rattle.std.proofs.lemmas.Result.{err_from_is_err_and}
use Rattle.ov_history.specs.Briefs.{Brief, numbered_brief}
use Rattle.ov_history.specs.Catalogue.{catalogue_after, file_names_shown}
use Rattle.ov_record.specs.Briefs.{plain_brief}
use Rattle.ov_store.specs.declared.fault.BeginFault.{BeginFault}
use Rattle.ov_store.specs.declared.fault.BeginFault.TheVariants.{Disk as DiskFailed}
use Rattle.ov_replaying.specs.Reading.{IsFaultOfStore}
use Rattle.ov_replaying.proofs.Stores.{stays_for}
use Rattle.ov_auditing.proofs.Steps.{may_look_at, next_followed, none_followed, some_followed}
use Rattle.ov_replaying.proofs.Updates.{fault_made}
use Rattle.ov_auditing.proofs.Steps.{told_taken}
use Rattle.ov_auditing.proofs.replaying.look_at_next.Goals as goal

-- the state after the update is the next that the audit looks at
pub see-requires : goal.see-requires
see-requires g c =
    let master = c.args.surface.now.bytes in
    let s = c.args.state.now.catalogue in
    let b : Brief = numbered_brief (file_names_shown s) (plain_brief c.in-Some.update) in
    let made = c.in_ok-make-in-Some.ensures in
    may_look_at master c.requires.any.0 b s c.make.new.state.catalogue c.args.audit.now
    c.requires.any.1 made.0 made.1 c.requires.members.0 c.requires.members.1

pub returns-in_ok-see-in-Some-clause-any : goal.returns-in_ok-see-in-Some-clause-any
returns-in_ok-see-in-Some-clause-any g c =
    let master = c.args.surface.now.bytes in
    let s = c.args.state.now.catalogue in
    let b : Brief = numbered_brief (file_names_shown s) (plain_brief c.in-Some.update) in
    let made = c.in_ok-make-in-Some.ensures in
    some_followed master c.requires.any.0 b s c.make.new.state.catalogue c.args.audit.now
    c.requires.any.1 made.0 made.1 c.see.new.self c.in_ok-see-in-Some.ensures.seen

pub returns-in_ok-see-in-Some-clause-followed : goal.returns-in_ok-see-in-Some-clause-followed
returns-in_ok-see-in-Some-clause-followed g c =
    let s = c.args.state.now.catalogue in
    let reads = rw c.in-Some.is at c.in_ok-update.ensures.update in
    next_followed g.D.Disk.tells c.args.store.now c.args.i s c.args.audit.now c.in-Some.update
    reads c.make.new.state.catalogue c.see.new.self
    (subst (λ (master : List ℕ). c.make.new.state.catalogue
    ≡ catalogue_after master s (numbered_brief (file_names_shown s) (plain_brief c.in-Some.update)))
    c.requires.master c.in_ok-make-in-Some.ensures.1)
    c.in_ok-see-in-Some.ensures.seen

pub returns-in-None-clause-followed : goal.returns-in-None-clause-followed
returns-in-None-clause-followed g c =
    let reads = rw c.in-None.is at c.in_ok-update.ensures.update in
    none_followed g.D.Disk.tells c.args.store.now c.args.i c.args.state.now.catalogue
    c.args.audit.now reads

-- an update that isn't taken is none of a disk that tells its bytes
pub returns-in_err-make-in-Some-clause-fault : goal.returns-in_err-make-in-Some-clause-fault
returns-in_err-make-in-Some-clause-fault g c =
    let p = err_from_is_err_and c.from_residual-in_err-make-in-Some.result
    c.from_residual-in_err-make-in-Some.ensures.1 in
    let reads = g.D.Disk.tells.reads c.args.store.now.disk in
    let found = rw c.in-Some.is at c.in_ok-update.ensures.update in
    rw p.1 (subst (λ (fault : BeginFault). IsFaultOfStore reads fault) (sym p.2)
    (fault_made ⊤ reads c.args.surface.now.bytes c.args.state.now.catalogue
    (plain_brief c.in-Some.update) c.make.new.state.catalogue c.in_err-make-in-Some.field-0.0
    (λ untaken.
    told_taken g.D.Disk.tells c.args.store.now c.args.i c.args.state.now.catalogue
    c.args.audit.now c.in-Some.update found c.requires.followed untaken)
    c.in_err-make-in-Some.ensures))

-- ---- what the store is like then

pub returns-in_ok-see-in-Some-clause-stays : goal.returns-in_ok-see-in-Some-clause-stays
returns-in_ok-see-in-Some-clause-stays g c =
    stays_for g.D.Disk.tells c.args.store.now c.read_update.new.store _ _ (λ is. absurd (cc is))
    c.read_update.ensures.stays

pub returns-in-None-clause-stays : goal.returns-in-None-clause-stays
returns-in-None-clause-stays g c =
    stays_for g.D.Disk.tells c.args.store.now c.read_update.new.store _ _ (λ is. absurd (cc is))
    c.read_update.ensures.stays

pub returns-in_err-update-clause-stays : goal.returns-in_err-update-clause-stays
returns-in_err-update-clause-stays g c =
    let p = err_from_is_err_and c.from_residual.result c.from_residual.ensures.1 in
    stays_for g.D.Disk.tells c.args.store.now c.read_update.new.store _ _
    (λ is. let failed : p.0 ≡ DiskFailed = cc (p.1, is) in
    c.in_err-update.was ∙ ap Err (sym p.2 ∙ failed))
    c.read_update.ensures.stays
