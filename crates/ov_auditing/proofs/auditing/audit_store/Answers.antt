use Rattle.std.proofs.Common.{◌≡◌, ◌∙◌, ℕ, List, ap, arith, inl, inr, refl, subst}
use Rattle.ov_history.specs.Catalogue.{Catalogue}
use Rattle.ov_machine.specs.Machine.{plain_masters}
use Rattle.ov_answering.proofs.Statuses.{not_code_or}
use Rattle.ov_auditing.specs.Exposed.{AreUsersOf, IsMissing}
use Rattle.ov_replaying.proofs.Stores.{begins_still}
use Rattle.ov_replaying.proofs.Endings.{disk_call, line_ends, line_found, line_low}
use Rattle.ov_auditing.proofs.Endings.{missing_tells}
use Rattle.ov_replaying.proofs.Stores.{stays_for}
use Rattle.ov_auditing.proofs.auditing.audit_store.Goals as goal

pub print_found-requires-clause-named : goal.print_found-requires-clause-named
print_found-requires-clause-named g c =
    let names : List (List ℕ) = c.args.asked.now.names in
    subst (λ (x : Catalogue). AreUsersOf x.users names c.in-Some.users) c.state.ensures
    (subst
    (λ (these : List (List ℕ)). AreUsersOf c.state.result.now.catalogue.users these
    c.in-Some.users)
    c.as_slice.ensures.names c.in-Some.ensures.found)

pub returns-in-None-clause-tells : goal.returns-in-None-clause-tells
returns-in-None-clause-tells g c = λ h serves i read.
    let names : List (List ℕ) = c.args.asked.now.names in
    missing_tells c.args.asked.now (plain_masters c.args.masters.now) h _ _ c.put_no_user.result _
    (λ six. inl (c.put_no_user.ensures.put.write six)) g.D.Disk.tells c.args.store.now
    c.requires serves c.epoch-epoch.result
    (c.epoch-epoch.ensures ∙ ap (λ (x : Catalogue). x.epoch) c.state-in-None.ensures)
    (subst (λ (x : Catalogue). IsMissing x.users names) c.state.ensures
    (subst (λ (these : List (List ℕ)). IsMissing c.state.result.now.catalogue.users these)
    c.as_slice.ensures.names c.in-None.ensures.none))
    c.put_no_user.ensures.ends

pub returns-in-None-clause-opened : goal.returns-in-None-clause-opened
returns-in-None-clause-opened g c = λ i read.
    line_low _ _ _ c.put_no_user.result c.put_no_user.ensures.ends

pub returns-in-None-clause-stays : goal.returns-in-None-clause-stays
returns-in-None-clause-stays g c =
    stays_for g.D.Disk.tells c.args.store.now c.args.store.now _ (c.put_no_user.result ≡ 4)
    (λ e. not_code_or _ 0 4 _ _ _ c.put_no_user.ensures.ends (λ z. omega arith)
    (λ z. omega arith) (λ z. omega arith) e)
    (begins_still g.D.Disk.tells c.args.store.now)

pub returns-in-None-clause-causes : goal.returns-in-None-clause-causes
returns-in-None-clause-causes g c =
    line_ends g.D.Disk.tells c.args.store.now.disk c.args.store.now.disk _ _ c.put_no_user.result _
    c.put_no_user.ensures.put.write _ _
    (disk_call g.D.Disk.tells c.args.store.now c.args.store.now _
    (begins_still g.D.Disk.tells c.args.store.now).call)
    c.put_no_user.ensures.ends

pub returns-in-None-clause-status : goal.returns-in-None-clause-status
returns-in-None-clause-status g c =
    line_found _ _ _ _ c.put_no_user.ensures.ends
