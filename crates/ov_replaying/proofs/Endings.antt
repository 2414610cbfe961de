-- How a program ends that reads a store again.
use Rattle.std.proofs.Common.{ℕ, ◌≡◌, ◌⊎◌, List, arith, inl, inr, refl, subst, sym}
use Rattle.std.specs.Prelude.{Option}
use Rattle.ov_answering.proofs.Beginning.{disk_said}
use Rattle.ov_answering.proofs.Judging.{call_so}
use Rattle.ov_answering.proofs.Statuses.{ends_or_so, fault_no_read, fault_no_tag, not_code_or, not_refused, script_seven, script_six}
use Rattle.ov_answering.specs.Ending.{EndsFor}
use Rattle.ov_answering.specs.Printing.{IsFault, IsKeysStatus, IsRefused, IsStoreStatus}
use Rattle.ov_disk.specs.Calls.{IsDiskCall}
use Rattle.ov_disk.specs.Tells.{DiskTells}
use Rattle.ov_replaying.specs.Statuses.{IsAskedStatus, IsFoundStatus}
use Rattle.ov_report.specs.Ends.{EndsOr}
use Rattle.ov_report.specs.Faults.{fault_line, fault_status}
use Rattle.ov_store.specs.Opened.{Opened}
use Rattle.ov_store.specs.Updating.{IsCallOf}
use Rattle.ov_store.specs.declared.fault.BeginFault.{BeginFault}
use Rattle.ov_store.specs.declared.fault.BeginFault.TheVariants.{BaseDiffers, Damaged, Disk as DiskFailed, Memory as NoMemory, ModeDiffers, NotAStore, SurfaceDiffers}

-- ---- statuses

pub line_low : (line : List ℕ) (old new : Option (List ℕ)) (status : ℕ)
    → EndsOr line 0 old new status → IsRefused status → ⊥
line_low line old new status ends =
    ends_or_so (λ s. IsRefused s → ⊥) line 0 old new status (not_refused 0 (inl (inl refl)))
    (not_refused 6 script_six) (not_refused 7 script_seven) ends

no_refusal : (fault : BeginFault) → (fault ≡ DiskFailed) ⊎ (fault ≡ NoMemory)
    → IsRefused (fault_status fault) → ⊥
no_refusal fault (inl is) =
    subst (λ (f : BeginFault). IsRefused (fault_status f) → ⊥) (sym is)
    (not_refused 4 (inr (inl (inr (inr (inr refl))))))
no_refusal fault (inr is) =
    subst (λ (f : BeginFault). IsRefused (fault_status f) → ⊥) (sym is)
    (not_refused 7 script_seven)

pub fault_low : (fault : BeginFault) (old new : Option (List ℕ)) (status : ℕ)
    → (fault ≡ DiskFailed) ⊎ (fault ≡ NoMemory)
    → EndsOr (fault_line fault) (fault_status fault) old new status → IsRefused status → ⊥
fault_low fault old new status is ends =
    ends_or_so (λ s. IsRefused s → ⊥) (fault_line fault) (fault_status fault) old new status
    (no_refusal fault is) (not_refused 6 script_six) (not_refused 7 script_seven) ends

pub fault_six : IsFault 6
fault_six = inr (inl refl)

pub fault_seven : IsFault 7
fault_seven = inr (inr (inl refl))

pub fault_found : (fault : BeginFault) → IsFoundStatus (fault_status fault)
fault_found DiskFailed = inr (inr (inr (inr (inr refl))))
fault_found NoMemory = inr (inr fault_seven)
fault_found NotAStore = inr (inl (inl refl))
fault_found (Damaged area place) = inr (inl (inl refl))
fault_found (BaseDiffers stored given) = inr (inl (inr refl))
fault_found (SurfaceDiffers stored given) = inr (inl (inr refl))
fault_found (ModeDiffers stored given) = inr (inl (inr refl))

-- lines were put
pub line_found : (line : List ℕ) (old new : Option (List ℕ)) (status : ℕ)
    → EndsOr line 0 old new status → IsFoundStatus status
line_found line old new status ends =
    ends_or_so IsFoundStatus line 0 old new status (inl refl) (inr (inr fault_six))
    (inr (inr fault_seven)) ends

-- a line on a fault was
pub fault_line_found : (fault : BeginFault) (old new : Option (List ℕ)) (status : ℕ)
    → EndsOr (fault_line fault) (fault_status fault) old new status → IsFoundStatus status
fault_line_found fault old new status ends =
    ends_or_so IsFoundStatus (fault_line fault) (fault_status fault) old new status
    (fault_found fault) (inr (inr fault_six)) (inr (inr fault_seven)) ends

-- a run has such a status too
pub found_so : (status : ℕ) → IsFoundStatus status → IsStoreStatus status
found_so status (inl zero) = inr (inl (inl zero))
found_so status (inr (inl refused)) = inl refused
found_so status (inr (inr fault)) = inr (inr (inl fault))

pub asked_so : (status : ℕ) → IsAskedStatus status → IsKeysStatus status
asked_so status (inl keys) = inl keys
asked_so status (inr found) = inr (found_so status found)

-- ---- causes

module _ {D : Type 0} (tells : DiskTells D) where
  pub disk_call : (s t : Opened D) (failed : Type 0) → IsCallOf tells s t failed
      → IsDiskCall tells failed s.disk t.disk
  disk_call s t failed call = record { same = call.1; later = call.2; rose = call.3 }

  -- with a fault for which it failed
  pub fault_call : (s t : Opened D) (failed : Type 0) (fault : BeginFault)
      → (fault ≡ DiskFailed → failed) → IsCallOf tells s t failed
      → IsDiskCall tells (fault ≡ DiskFailed) s.disk t.disk
  fault_call s t failed fault so call =
      record { same = call.1; later = call.2; rose = λ is. call.3 (so is) }

  module _ (first last : D) (old new : Option (List ℕ)) (status : ℕ) (writes : Type 0)
      (write : status ≡ 6 → writes) where
    -- a line was put
    pub line_ends : (failed : Type 0) (line : List ℕ) → IsDiskCall tells failed first last
        → EndsOr line 0 old new status → EndsFor tells first last status ⊥ writes ⊥
    line_ends failed line call ends =
        let never = λ (n : ℕ). not_code_or line 0 n old new status ends in record {
          disk = record {
            same = call.same;
            later = call.later;
            rose = λ e.
                absurd (never 4 (λ z. omega arith) (λ z. omega arith) (λ z. omega arith) e);
          };
          read = λ e. never 5 (λ z. omega arith) (λ z. omega arith) (λ z. omega arith) e;
          write = write;
          tag = λ e. never 12 (λ z. omega arith) (λ z. omega arith) (λ z. omega arith) e;
        }

    -- the line on a fault was put
    pub fault_ends : (fault : BeginFault) → IsDiskCall tells (fault ≡ DiskFailed) first last
        → EndsOr (fault_line fault) (fault_status fault) old new status
        → EndsFor tells first last status ⊥ writes ⊥
    fault_ends fault call ends = record {
      disk = record {
        same = call.same;
        later = call.later;
        rose = λ e. call.rose (disk_said fault (fault_line fault) old new status ends e);
      };
      read = λ e. fault_no_read fault (fault_line fault) old new status ends e;
      write = write;
      tag = λ e. fault_no_tag fault (fault_line fault) old new status ends e;
    }

  -- a call that didn't fail, and then more
  pub ends_then : (first mid last : D) (failed : Type 0) (status : ℕ) (writes : Type 0)
      → IsDiskCall tells failed first mid → EndsFor tells mid last status ⊥ writes ⊥
      → EndsFor tells first last status ⊥ writes ⊥
  ends_then first mid last failed status writes call ends = record {
    disk = call_so tells first mid last failed (status ≡ 4) call ends.disk;
    read = ends.read;
    write = ends.write;
    tag = ends.tag;
  }
