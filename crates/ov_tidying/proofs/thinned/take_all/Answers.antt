use Rattle.std.proofs.Common.{ℕ, rules, ◌≡◌, ◌∙◌, Err, Option, ap, arith, subst, sym}
use Rattle.std.proofs.lemmas.Result.{err_from_is_err_and}
use Rattle.ov_disk.specs.Disk.{Image}
use Rattle.ov_store.specs.declared.fault.BeginFault.{BeginFault}
use Rattle.ov_store.specs.declared.fault.BeginFault.TheVariants.{Disk as DiskFailed}
use Rattle.ov_replaying.specs.Reading.{IsFaultOfStore}
use Rattle.ov_replaying.proofs.Stores.{begins_still, stays_for, stays_on, stays_then, surface_stays}
use Rattle.ov_tidying.specs.Taking.{TakesEach}
use Rattle.ov_tidying.proofs.Steps.{each_taken, one_taken}
use Rattle.ov_tidying.proofs.thinned.take_all.Goals as goal

pub updates-init : goal.updates-init
updates-init g c = record {
  taken = c.requires.none;
  few = omega arith;
  stays = begins_still g.D.Disk.tells c.args.store.now;
}

pub take_next-requires-clause-master : goal.take_next-requires-clause-master
take_next-requires-clause-master g c =
    c.requires.master
    ∙ sym (surface_stays g.D.Disk.tells c.args.store.now c.updates.store c.updates.invariant.stays)

pub take_next-requires-clause-taken : goal.take_next-requires-clause-taken
take_next-requires-clause-taken g c =
    one_taken g.D.Disk.tells c.args.store.now c.updates.store c.updates.invariant.stays c.updates.i
    c.updates.thin c.updates.invariant.taken c.known.ensures.0 c.known.ensures.1

pub updates-preserved : goal.updates-preserved
updates-preserved g c = record {
  taken = each_taken g.D.Disk.tells c.args.store.now c.updates.store c.updates.invariant.stays
      c.updates.i c.updates.thin c.take_next.new.thin c.updates.invariant.taken
      c.in_ok-take_next.ensures.taken;
  few = omega (arith, c.updates.invariant.few, c.in_ok-take_next.ensures.few);
  stays = stays_on g.D.Disk.tells c.args.store.now c.updates.store c.updates.invariant.stays
      c.take_next.new.store _ (λ none. absurd none) c.take_next.ensures.stays;
}

pub returns-clause-taken : goal.returns-clause-taken
returns-clause-taken g c =
    let all : c.updates.i ≡ c.args.updates = search rules in
    subst (λ (n : ℕ). TakesEach g.D.Disk.tells c.args.store.now n c.updates.thin) all
    c.updates.invariant.taken

-- ---- what the store is like then

pub returns-clause-stays : goal.returns-clause-stays
returns-clause-stays g c =
    stays_for g.D.Disk.tells c.args.store.now c.updates.store _ _ (λ is. absurd (cc is))
    c.updates.invariant.stays

pub returns-in_err-take_next-clause-stays : goal.returns-in_err-take_next-clause-stays
returns-in_err-take_next-clause-stays g c =
    let p = err_from_is_err_and c.from_residual.result c.from_residual.ensures.1 in
    stays_for g.D.Disk.tells c.args.store.now c.take_next.new.store _ _
    (λ is. let failed : p.0 ≡ DiskFailed = cc (p.1, is) in
    c.in_err-take_next.was ∙ ap Err (sym p.2 ∙ failed))
    (stays_then g.D.Disk.tells c.args.store.now c.updates.store c.take_next.new.store _ _
    c.updates.invariant.stays c.take_next.ensures.stays)

-- a disk that is read tells what it told
pub returns-in_err-take_next-clause-fault : goal.returns-in_err-take_next-clause-fault
returns-in_err-take_next-clause-fault g c =
    let p = err_from_is_err_and c.from_residual.result c.from_residual.ensures.1 in
    rw p.1 (subst (λ (fault : BeginFault).
    IsFaultOfStore (g.D.Disk.tells.reads c.args.store.now.disk) fault) (sym p.2)
    (subst (λ (reads : Option Image). IsFaultOfStore reads c.in_err-take_next.field-0.0)
    c.updates.invariant.stays.untouched.reads_same c.in_err-take_next.ensures.fault))
