use Rattle.std.proofs.Common.{rules, ◌≡◌, ◌∙◌, ◌-◌, Bool, Err, List, Option, ap, arith, subst, sym}
use Rattle.std.proofs.lemmas.Result.{err_from_is_err_and}
use Rattle.ov_disk.specs.Disk.{Image}
use Rattle.std.proofs.lemmas.List.{take_all}
use Rattle.ov_exposure.specs.Auditing.{AreMembers, Finding, findings_from}
use Rattle.ov_history.specs.Sent.{SealedUpdate}
use Rattle.ov_store.specs.Owners.{with_first}
use Rattle.ov_auditing.specs.Exposed.{AreFindings}
use Rattle.ov_store.specs.declared.fault.BeginFault.{BeginFault}
use Rattle.ov_store.specs.declared.fault.BeginFault.TheVariants.{Disk as DiskFailed, Memory as NoMemory}
use Rattle.ov_replaying.specs.Reading.{IsFaultOfStore}
use Rattle.ov_auditing.specs.Following.{HasFollowed}
use Rattle.ov_replaying.proofs.Stores.{begins_still}
use Rattle.ov_auditing.proofs.Beginnings.{begins_any, begins_each}
use Rattle.ov_replaying.proofs.Stores.{stays_for}
use Rattle.ov_auditing.proofs.Followed.{findings_are}
use Rattle.ov_replaying.proofs.Stores.{stays_on, stays_then, surface_stays}
use Rattle.ov_auditing.proofs.Steps.{each_followed, one_followed}
use Rattle.ov_auditing.proofs.replaying.findings_of.Goals as goal

pub updates-init : goal.updates-init
updates-init g c = record {
  any = begins_any c.args.surface.now.bytes c.mode.result (c.epoch.result - c.updates-updates.result)
      c.in_ok-state.state.value.catalogue c.new-audit.result (search rules)
      c.new-audit.ensures.epoch c.new-audit.ensures.notes;
  followed = begins_each g.D.Disk.tells c.args.store.now c.mode.result
      (c.epoch.result - c.updates-updates.result) c.in_ok-state.state.value.catalogue c.new-audit.result
      (search rules) c.new-audit.ensures.epoch c.new-audit.ensures.notes
      (search rules)
      (λ h serves i read. let many = c.updates-updates.ensures.count h serves i read in search rules);
  stays = begins_still g.D.Disk.tells c.args.store.now;
  users = c.new-audit.ensures.users;
  server = c.new-audit.ensures.server;
}

pub look_at_next-requires-clause-master : goal.look_at_next-requires-clause-master
look_at_next-requires-clause-master g c =
    c.requires.master
    ∙ sym (surface_stays g.D.Disk.tells c.args.store.now c.updates.store c.updates.invariant.stays)

pub look_at_next-requires-clause-members : goal.look_at_next-requires-clause-members
look_at_next-requires-clause-members g c = (
  c.requires.members.0,
  subst (λ set. AreMembers c.requires.members.0 set) (sym c.updates.invariant.users)
      c.requires.members.1,
)

pub look_at_next-requires-clause-any : goal.look_at_next-requires-clause-any
look_at_next-requires-clause-any g c =
    rw (sym c.deref_mut.ensures.value) at c.updates.invariant.any

pub look_at_next-requires-clause-followed : goal.look_at_next-requires-clause-followed
look_at_next-requires-clause-followed g c =
    rw (sym c.deref_mut.ensures.value) at
    (one_followed g.D.Disk.tells c.args.store.now c.updates.store c.updates.invariant.stays c.updates.i
    c.updates.state.value.catalogue c.updates.audit c.updates.invariant.followed c.known.ensures.0
    c.known.ensures.1)

pub updates-preserved : goal.updates-preserved
updates-preserved g c = record {
  any = c.in_ok-look_at_next.ensures.any;
  followed = each_followed g.D.Disk.tells c.args.store.now c.updates.store c.updates.invariant.stays
      c.updates.i c.updates.state.value.catalogue c.look_at_next.new.state.catalogue c.updates.audit
      c.look_at_next.new.audit c.updates.invariant.followed
      (rw c.deref_mut.ensures.value at c.in_ok-look_at_next.ensures.followed);
  stays = stays_on g.D.Disk.tells c.args.store.now c.updates.store c.updates.invariant.stays
      c.look_at_next.new.store _ (λ none. absurd none) c.look_at_next.ensures.stays;
  users = c.look_at_next.ensures.same.0 ∙ c.updates.invariant.users;
  server = c.look_at_next.ensures.same.1 ∙ c.updates.invariant.server;
}

pub returns-clause-found : goal.returns-clause-found
returns-clause-found g c h serves i read users are there =
    let followed = c.updates.invariant.followed h serves i read in
    let whole : HasFollowed c.args.store.now.keys.surface h c.updates.state.value.catalogue
    c.updates.audit =
    subst (λ (us : List SealedUpdate). HasFollowed c.args.store.now.keys.surface (with_first h us)
    c.updates.state.value.catalogue c.updates.audit)
    (take_all c.updates.i h.updates
    (omega (arith, c.updates-updates.ensures.count h serves i read))) followed in
    let found : AreFindings c.updates.audit.server c.args.store.now.keys.surface h users
    (findings_from c.updates.audit.server 0 c.updates.audit.notes) =
    findings_are c.updates.audit.server c.args.store.now.keys.surface h c.updates.state.value.catalogue
    c.updates.audit users whole
    (subst (λ set. AreMembers users set) (sym c.updates.invariant.users) are) there in
    subst (λ (findings : List Finding). AreFindings c.args.server c.args.store.now.keys.surface h
    users findings) (sym c.in_ok-findings.ensures)
    (subst (λ (helped : Bool). AreFindings helped c.args.store.now.keys.surface h users
    (findings_from c.updates.audit.server 0 c.updates.audit.notes)) c.updates.invariant.server
    found)

-- ---- what the store is like then

pub returns-clause-stays : goal.returns-clause-stays
returns-clause-stays g c =
    stays_for g.D.Disk.tells c.args.store.now c.updates.store _ _ (λ is. absurd (cc is))
    c.updates.invariant.stays

pub returns-in_err-look_at_next-clause-stays : goal.returns-in_err-look_at_next-clause-stays
returns-in_err-look_at_next-clause-stays g c =
    let p = err_from_is_err_and c.from_residual-in_err-look_at_next.result
    c.from_residual-in_err-look_at_next.ensures.1 in
    stays_for g.D.Disk.tells c.args.store.now c.look_at_next.new.store _ _
    (λ is. let failed : p.0 ≡ DiskFailed = cc (p.1, is) in
    c.in_err-look_at_next.was ∙ ap Err (sym p.2 ∙ failed))
    (stays_then g.D.Disk.tells c.args.store.now c.updates.store c.look_at_next.new.store _ _
    c.updates.invariant.stays c.look_at_next.ensures.stays)

-- a disk that is read tells what it told
pub returns-in_err-look_at_next-clause-fault : goal.returns-in_err-look_at_next-clause-fault
returns-in_err-look_at_next-clause-fault g c =
    let p = err_from_is_err_and c.from_residual-in_err-look_at_next.result
    c.from_residual-in_err-look_at_next.ensures.1 in
    rw p.1 (subst (λ (fault : BeginFault).
    IsFaultOfStore (g.D.Disk.tells.reads c.args.store.now.disk) fault) (sym p.2)
    (subst (λ (reads : Option Image). IsFaultOfStore reads c.in_err-look_at_next.field-0.0)
    c.updates.invariant.stays.untouched.reads_same c.in_err-look_at_next.ensures.fault))

-- ---- memory is refused for the findings

pub returns-in_err-findings-clause-fault : goal.returns-in_err-findings-clause-fault
returns-in_err-findings-clause-fault g c =
    let p = err_from_is_err_and c.from_residual-in_err-findings.result
    c.from_residual-in_err-findings.ensures.1 in
    let memory : p.0 ≡ NoMemory = p.2 in
    rw p.1 (subst (λ (fault : BeginFault).
    IsFaultOfStore (g.D.Disk.tells.reads c.args.store.now.disk) fault) (sym memory) tt)

pub returns-in_err-findings-clause-stays : goal.returns-in_err-findings-clause-stays
returns-in_err-findings-clause-stays g c =
    let p = err_from_is_err_and c.from_residual-in_err-findings.result
    c.from_residual-in_err-findings.ensures.1 in
    let memory : p.0 ≡ NoMemory = p.2 in
    stays_for g.D.Disk.tells c.args.store.now c.updates.store _ _
    (λ is. let failed : p.0 ≡ DiskFailed = cc (p.1, is) in absurd (cc (memory, failed)))
    c.updates.invariant.stays
