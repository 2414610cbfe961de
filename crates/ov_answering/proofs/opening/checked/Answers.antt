use Rattle.std.proofs.Common.{◌≡◌, refl, subst, sym, ◌∙◌, Option, ℕ}
use Rattle.ov_disk.specs.Calls.{IsDiskCall}
use Rattle.ov_disk.specs.Disk.{Told}
use Rattle.ov_disk.specs.Moments.{IsUntouched}
use Rattle.ov_history.specs.Sealed.{SealedHistory}
use Rattle.ov_journal.specs.Book.{contents_of}
use Rattle.ov_store.specs.Opened.{Serves}
use Rattle.ov_store.specs.Owners.{Checks, masters as both}
use Rattle.ov_store.specs.declared.fault.BeginFault.TheVariants.{Disk}
use Rattle.ov_answering.specs.Judging.{IsCheckFault}
use Rattle.ov_answering.proofs.Judging.{all_found, disk_found, false_found}
use Rattle.ov_answering.proofs.opening.checked.Goals as goal

pub returns-in-None-clause-owners : goal.returns-in-None-clause-owners
returns-in-None-clause-owners g c = λ h serves i read.
    let P : Option ℕ → Type 0 =
    λ found. (h : SealedHistory) → Serves g.D.Disk.tells h c.args.store
    → Told (g.D.Disk.tells.reads c.args.store.disk)
    (λ i. Checks (both c.args.base.now.bytes c.args.store.keys.surface)
    (contents_of i.book).records.step h found) in
    let all = all_found P c.check.result (sym c.fault_found.ensures ∙ c.in-None.is)
    c.check.ensures.checked in
    (all h serves i read, c.check.ensures.served h serves)

pub returns-in-Some-clause-owners : goal.returns-in-Some-clause-owners
returns-in-Some-clause-owners g c = λ h serves i read.
    let P : Option ℕ → Type 0 =
    λ found. (h : SealedHistory) → Serves g.D.Disk.tells h c.args.store
    → Told (g.D.Disk.tells.reads c.args.store.disk)
    (λ i. Checks (both c.args.base.now.bytes c.args.store.keys.surface)
    (contents_of i.book).records.step h found) in
    false_found P (IsCheckFault (both c.args.base.now.bytes c.args.store.keys.surface) i h)
    c.check.result c.in-Some.fault
    (sym c.fault_found.ensures ∙ c.in-Some.is) c.check.ensures.checked tt tt
    (λ place found. (refl, found h serves i read))

pub returns-in-Some-clause-untouched : goal.returns-in-Some-clause-untouched
returns-in-Some-clause-untouched g c =
    subst (λ (d : g.row.D.Denot). IsUntouched g.D.Disk.tells c.args.store.disk d)
    (sym c.close.ensures) c.check.ensures.untouched

pub returns-in-Some-clause-call : goal.returns-in-Some-clause-call
returns-in-Some-clause-call g c =
    let found = sym c.fault_found.ensures ∙ c.in-Some.is in
    subst
    (λ (d : g.row.D.Denot). IsDiskCall g.D.Disk.tells (c.in-Some.fault ≡ Disk) c.args.store.disk d)
    (sym c.close.ensures)
    (record {
      same = c.check.ensures.call.1;
      later = c.check.ensures.call.2;
      rose = λ is. c.check.ensures.call.3 (disk_found c.check.result c.in-Some.fault found is);
    })
