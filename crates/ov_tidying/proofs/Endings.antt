-- How the making of a shorter store ends.
use Rattle.std.proofs.Common.{ℕ, ◌≡◌, ◌⊎◌, List, Option, arith, inl, inr, refl, subst, ⊎_elim}
use Rattle.ov_answering.proofs.Beginning.{disk_said}
use Rattle.ov_answering.proofs.Judging.{call_so}
use Rattle.ov_answering.proofs.Statuses.{fault_no_read, not_code_or, not_keys, not_usage}
use Rattle.ov_answering.specs.Printing.{read_line}
use Rattle.ov_base.specs.Causes.{Rose}
use Rattle.ov_disk.proofs.Runs.{started}
use Rattle.ov_disk.specs.Calls.{IsDiskCall}
use Rattle.ov_disk.specs.Disk.{Image, Told}
use Rattle.ov_disk.specs.Tells.{DiskTells}
use Rattle.ov_history.specs.Sealed.{SealedHistory}
use Rattle.ov_journal.specs.Standing.{IsUnborn}
use Rattle.ov_replaying.proofs.Endings.{asked_so, found_so}
use Rattle.ov_replaying.specs.Statuses.{IsAskedStatus, IsFoundStatus}
use Rattle.ov_report.specs.Ends.{EndsIn, EndsOr}
use Rattle.ov_report.specs.Faults.{disk_line, fault_line, fault_status, memory_line}
use Rattle.ov_store.specs.declared.fault.BeginFault.{BeginFault}
use Rattle.ov_store.specs.declared.fault.BeginFault.TheVariants.{BaseDiffers, Damaged, Disk as DiskFailed, Memory as NoMemory, ModeDiffers, NotAStore, SurfaceDiffers}
use Rattle.ov_tidying.specs.Promises.{EndsBy, EndsEarly, EndsOnBoth, tidied}

-- ---- statuses

pub not_asked_usage : (status : ℕ) → (status ≡ 14) ⊎ IsAskedStatus status → status ≡ 2 → ⊥
not_asked_usage status (inl e) two = omega arith
not_asked_usage status (inr asked) two = not_usage status (asked_so status asked) two

pub not_found_keys : (status : ℕ) → (status ≡ 14) ⊎ IsFoundStatus status → status ≡ 10 → ⊥
not_found_keys status (inl e) ten = omega arith
not_found_keys status (inr found) ten = not_keys status (found_so status found) ten

pub asked_of : (status : ℕ) → (status ≡ 14) ⊎ IsFoundStatus status
    → (status ≡ 14) ⊎ IsAskedStatus status
asked_of status (inl e) = inl e
asked_of status (inr found) = inr (inr found)

fault_not_empty : (fault : BeginFault) → fault_status fault ≡ 14 → ⊥
fault_not_empty DiskFailed e = omega arith
fault_not_empty NoMemory e = omega arith
fault_not_empty NotAStore e = omega arith
fault_not_empty (Damaged area place) e = omega arith
fault_not_empty (BaseDiffers stored given) e = omega arith
fault_not_empty (SurfaceDiffers stored given) e = omega arith
fault_not_empty (ModeDiffers stored given) e = omega arith

pub fault_no_empty : (fault : BeginFault) (old new : Option (List ℕ)) (status : ℕ)
    → EndsOr (fault_line fault) (fault_status fault) old new status → status ≡ 14 → ⊥
fault_no_empty fault old new status ends fourteen =
    not_code_or (fault_line fault) (fault_status fault) 14 old new status ends
    (fault_not_empty fault) (λ z. omega arith) (λ z. omega arith) fourteen

fault_not_zero : (fault : BeginFault) → fault_status fault ≡ 0 → ⊥
fault_not_zero DiskFailed e = omega arith
fault_not_zero NoMemory e = omega arith
fault_not_zero NotAStore e = omega arith
fault_not_zero (Damaged area place) e = omega arith
fault_not_zero (BaseDiffers stored given) e = omega arith
fault_not_zero (SurfaceDiffers stored given) e = omega arith
fault_not_zero (ModeDiffers stored given) e = omega arith

pub fault_no_zero : (fault : BeginFault) (old new : Option (List ℕ)) (status : ℕ)
    → EndsOr (fault_line fault) (fault_status fault) old new status → status ≡ 0 → ⊥
fault_no_zero fault old new status ends zero =
    not_code_or (fault_line fault) (fault_status fault) 0 old new status ends
    (fault_not_zero fault) (λ z. omega arith) (λ z. omega arith) zero

-- ---- by which causes

module _ (old new : Option (List ℕ)) (status : ℕ) (faults : Type 0) (six : status ≡ 6 → faults) where
  pub in_seven : EndsIn memory_line 7 old new status → (faults → ⊥) → status ≡ 7
  in_seven (inl q) none = q.0
  in_seven (inr q) none = absurd (none (six q.0))

  pub in_never : (line : List ℕ) (code : ℕ) → (status ≡ code → faults)
      → EndsIn line code old new status → (faults → ⊥) → ⊥
  in_never line code call (inl q) none = none (call q.0)
  in_never line code call (inr q) none = none (six q.0)

  early_seven : EndsEarly old new status → (status ≡ 4 → faults) → (status ≡ 5 → faults)
      → (faults → ⊥) → status ≡ 7
  early_seven (inl e) four five none = in_seven e none
  early_seven (inr (inl e)) four five none = absurd (in_never disk_line 4 four e none)
  early_seven (inr (inr e)) four five none = absurd (in_never read_line 5 five e none)

  -- where nothing was written
  pub early_by : (read : Option Image) → EndsEarly old new status → (status ≡ 4 → faults)
      → (status ≡ 5 → faults) → EndsBy read status faults
  early_by read ends four five = record {
    unborn = λ i is unborn none. inr (early_seven ends four five none);
    born = λ i is born none. inr (early_seven ends four five none);
  }

  whole_or_seven : (g : SealedHistory) (kept : List ℕ)
      → EndsIn (tidied g kept) 0 old new status
      ⊎ (EndsIn memory_line 7 old new status ⊎ EndsIn disk_line 4 old new status)
      → (status ≡ 4 → faults) → (faults → ⊥) → (status ≡ 0) ⊎ (status ≡ 7)
  whole_or_seven g kept (inl (inl q)) four none = inl q.0
  whole_or_seven g kept (inl (inr q)) four none = absurd (none (six q.0))
  whole_or_seven g kept (inr (inl e)) four none = inr (in_seven e none)
  whole_or_seven g kept (inr (inr e)) four none = absurd (in_never disk_line 4 four e none)

  -- once the new store is begun
  pub copied_by : (g : SealedHistory) (kept : List ℕ) (read : Option Image)
      → EndsIn (tidied g kept) 0 old new status
      ⊎ (EndsIn memory_line 7 old new status ⊎ EndsIn disk_line 4 old new status)
      → (status ≡ 4 → faults) → Told read (λ i. IsUnborn i.book) → EndsBy read status faults
  copied_by g kept read ends four unborn_is = record {
    unborn = λ i is unborn none. whole_or_seven g kept ends four none;
    born = λ i is born none. absurd (born (unborn_is i is));
  }

-- what is said where nothing was written
module _ (old new : Option (List ℕ)) (status : ℕ) where
  disk_early : EndsOr disk_line 4 old new status → EndsEarly old new status
  disk_early (inl e) = inr (inl e)
  disk_early (inr e) = inl e

  memory_early : EndsOr memory_line 7 old new status → EndsEarly old new status
  memory_early (inl e) = inl e
  memory_early (inr e) = inl e

  pub fault_early : (fault : BeginFault) → (fault ≡ DiskFailed) ⊎ (fault ≡ NoMemory)
      → EndsOr (fault_line fault) (fault_status fault) old new status → EndsEarly old new status
  fault_early fault (inl is) ends =
      disk_early
      (subst (λ (f : BeginFault). EndsOr (fault_line f) (fault_status f) old new status) is ends)
  fault_early fault (inr is) ends =
      memory_early
      (subst (λ (f : BeginFault). EndsOr (fault_line f) (fault_status f) old new status) is ends)

  pub fault_by : (faults : Type 0) → (status ≡ 6 → faults) → (read : Option Image)
      → (fault : BeginFault) → (fault ≡ DiskFailed) ⊎ (fault ≡ NoMemory)
      → EndsOr (fault_line fault) (fault_status fault) old new status
      → (fault ≡ DiskFailed → faults) → EndsBy read status faults
  fault_by faults six read fault is ends call =
      early_by old new status faults six read (fault_early fault is ends)
      (λ e. call (disk_said fault (fault_line fault) old new status ends e))
      (λ e. absurd (fault_no_read fault (fault_line fault) old new status ends e))

-- more may have been a fault
pub by_more : (read : Option Image) (status : ℕ) (faults more : Type 0) → (faults → more)
    → EndsBy read status faults → EndsBy read status more
by_more read status faults more so by = record {
  unborn = λ i is unborn none. by.unborn i is unborn (λ fault. none (so fault));
  born = λ i is born none. by.born i is born (λ fault. none (so fault));
}

-- ---- both disks

-- a disk that isn't touched
pub no_disk_call : {D : Type 0} (tells : DiskTells D) (disk : D) → IsDiskCall tells ⊥ disk disk
no_disk_call tells disk = record { same = refl; later = omega arith; rose = λ none. absurd none }

module _ {D E : Type 0} (olds : DiskTells D) (news : DiskTells E) where
  -- a call of the old disk, and then more
  pub both_then : (old mid last : D) (new after : E) (failed : Type 0) (status : ℕ) (writes : Type 0)
      → IsDiskCall olds failed old mid → EndsOnBoth olds news mid last new after status ⊥ writes
      → EndsOnBoth olds news old last new after status ⊥ writes
  both_then old mid last new after failed status writes call ends = record {
    old_call = call_so olds old mid last failed ⊥ call ends.old_call;
    new_call = ends.new_call;
    disk = λ e.
        ⊎_elim
        (λ (rose : Rose (olds.faults mid) (olds.faults last)). inl (omega (arith, call.later, rose)))
        (λ rose. inr rose) (ends.disk e);
    read = ends.read;
    write = ends.write;
    notempty = ends.notempty;
    born = ends.born;
  }

  -- a line on a fault was put, and the new disk isn't touched
  pub fault_on_both : (old last : D) (new : E) (put_old put_new : Option (List ℕ)) (status : ℕ)
      (writes : Type 0) → (status ≡ 6 → writes) → (fault : BeginFault)
      → IsDiskCall olds (fault ≡ DiskFailed) old last
      → EndsOr (fault_line fault) (fault_status fault) put_old put_new status
      → EndsOnBoth olds news old last new new status ⊥ writes
  fault_on_both old last new put_old put_new status writes write fault call ends = record {
    old_call = record { same = call.same; later = call.later; rose = λ none. absurd none };
    new_call = no_disk_call news new;
    disk = λ e. inl (call.rose (disk_said fault (fault_line fault) put_old put_new status ends e));
    read = λ e. fault_no_read fault (fault_line fault) put_old put_new status ends e;
    write = write;
    notempty = λ e. absurd (fault_no_empty fault put_old put_new status ends e);
    born = λ i read born. started news new (news.may_leave new) (λ c left. left);
  }
