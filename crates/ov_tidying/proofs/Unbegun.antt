-- How it ends where the new store isn't begun.
use Rattle.std.proofs.Common.{ℕ, ◌∙◌, ◌≡◌, ◌⊎◌, List, Option, arith, inl, inr, refl, sym}
use Rattle.ov_answering.proofs.Statuses.{ends_or_so, not_code_or, not_refused, script_seven, script_six}
use Rattle.ov_answering.specs.Printing.{IsRefused}
use Rattle.ov_disk.specs.Disk.{Image, Told}
use Rattle.ov_history.specs.Sealed.{SealedHistory}
use Rattle.ov_journal.specs.Standing.{IsUnborn}
use Rattle.ov_replaying.proofs.Endings.{fault_seven, fault_six}
use Rattle.ov_replaying.specs.Statuses.{IsFoundStatus}
use Rattle.ov_report.specs.Ends.{EndsIn, EndsOr}
use Rattle.ov_report.specs.Faults.{disk_line, memory_line}
use Rattle.ov_store.specs.Beginning.{IsBeginAtFault}
use Rattle.ov_store.specs.declared.fault.BeginFault.{BeginFault}
use Rattle.ov_store.specs.declared.fault.BeginFault.TheVariants.{BaseDiffers, Damaged, Disk as DiskFailed, Memory as NoMemory, ModeDiffers, NotAStore, SurfaceDiffers}
use Rattle.ov_tidying.proofs.Endings.{in_seven}
use Rattle.ov_tidying.specs.Lines.{notempty_line}
use Rattle.ov_tidying.specs.Promises.{EndsBy, EndsKept}
use Rattle.ov_tidying.specs.Writing.{begin_line, begin_status}

-- ---- the status

-- the status of each fault is one of three
status_is : (P : ℕ → Type 0) → P 4 → P 7 → P 14 → (fault : BeginFault) → P (begin_status fault)
status_is P four seven empty DiskFailed = four
status_is P four seven empty NoMemory = seven
status_is P four seven empty NotAStore = empty
status_is P four seven empty (Damaged area place) = empty
status_is P four seven empty (BaseDiffers stored given) = empty
status_is P four seven empty (SurfaceDiffers stored given) = empty
status_is P four seven empty (ModeDiffers stored given) = empty

-- only a call of the disk that failed has the status of one
call_is : (fault : BeginFault) → begin_status fault ≡ 4 → fault ≡ DiskFailed
call_is DiskFailed e = refl
call_is NoMemory e = absurd (omega arith)
call_is NotAStore e = absurd (omega arith)
call_is (Damaged area place) e = absurd (omega arith)
call_is (BaseDiffers stored given) e = absurd (omega arith)
call_is (SurfaceDiffers stored given) e = absurd (omega arith)
call_is (ModeDiffers stored given) e = absurd (omega arith)

-- the line on a disk that isn't empty is put for each fault but these two
pub other_ends : (fault : BeginFault) → (fault ≡ DiskFailed → ⊥) → (fault ≡ NoMemory → ⊥)
    → (old new : Option (List ℕ)) (status : ℕ) → EndsIn notempty_line 14 old new status
    → EndsOr (begin_line fault) (begin_status fault) old new status
other_ends DiskFailed no_disk no_memory old new status ends = absurd (no_disk refl)
other_ends NoMemory no_disk no_memory old new status ends = absurd (no_memory refl)
other_ends NotAStore no_disk no_memory old new status ends = inl ends
other_ends (Damaged area place) no_disk no_memory old new status ends = inl ends
other_ends (BaseDiffers stored given) no_disk no_memory old new status ends = inl ends
other_ends (SurfaceDiffers stored given) no_disk no_memory old new status ends = inl ends
other_ends (ModeDiffers stored given) no_disk no_memory old new status ends = inl ends

empty_low : IsRefused 14 → ⊥
empty_low (inl e) = omega arith
empty_low (inr e) = omega arith

module _ (fault : BeginFault) (old new : Option (List ℕ)) (status : ℕ)
    (ends : EndsOr (begin_line fault) (begin_status fault) old new status) where
  by_status : (P : ℕ → Type 0) → P 4 → P 6 → P 7 → P 14 → P status
  by_status P four six seven empty =
      ends_or_so P (begin_line fault) (begin_status fault) old new status
      (status_is P four seven empty fault) six seven ends

  pub unbegun_status : (status ≡ 14) ⊎ IsFoundStatus status
  unbegun_status =
      by_status (λ s. (s ≡ 14) ⊎ IsFoundStatus s) (inr (inr (inr (inr (inr (inr refl))))))
      (inr (inr (inr fault_six))) (inr (inr (inr fault_seven))) (inl refl)

  pub unbegun_low : IsRefused status → ⊥
  unbegun_low =
      by_status (λ s. IsRefused s → ⊥) (not_refused 4 (inr (inl (inr (inr (inr refl))))))
      (not_refused 6 script_six) (not_refused 7 script_seven) empty_low

  pub unbegun_not_whole : status ≡ 0 → ⊥
  unbegun_not_whole =
      by_status (λ s. s ≡ 0 → ⊥) (λ e. omega arith) (λ e. omega arith) (λ e. omega arith)
      (λ e. omega arith)

  pub unbegun_not_read : status ≡ 5 → ⊥
  unbegun_not_read =
      by_status (λ s. s ≡ 5 → ⊥) (λ e. omega arith) (λ e. omega arith) (λ e. omega arith)
      (λ e. omega arith)

  pub unbegun_call : status ≡ 4 → fault ≡ DiskFailed
  unbegun_call e = by_end ends where
    by_end : EndsOr (begin_line fault) (begin_status fault) old new status → fault ≡ DiskFailed
    by_end (inl (inl q)) = call_is fault (sym q.0 ∙ e)
    by_end (inl (inr q)) = absurd (let six : status ≡ 6 = q.0 in omega arith)
    by_end (inr (inl q)) = absurd (let seven : status ≡ 7 = q.0 in omega arith)
    by_end (inr (inr q)) = absurd (let six : status ≡ 6 = q.0 in omega arith)

-- ---- by what is on the new disk

-- a disk is said not to be empty where it isn't unborn
pub not_empty : (fault : BeginFault) (old new : Option (List ℕ)) (status : ℕ) (read : Option Image)
    → EndsOr (begin_line fault) (begin_status fault) old new status
    → Told read (λ i. IsBeginAtFault i fault) → status ≡ 14
    → Told read (λ i. IsUnborn i.book → ⊥)
not_empty DiskFailed old new status read ends why e =
    absurd (not_code_or disk_line 4 14 old new status ends (λ z. omega arith) (λ z. omega arith)
    (λ z. omega arith) e)
not_empty NoMemory old new status read ends why e =
    absurd (not_code_or memory_line 7 14 old new status ends (λ z. omega arith) (λ z. omega arith)
    (λ z. omega arith) e)
not_empty NotAStore old new status read ends why e = why
not_empty (Damaged area place) old new status read ends why e = λ i is. absurd (why i is)
not_empty (BaseDiffers stored given) old new status read ends why e = λ i is. absurd (why i is)
not_empty (SurfaceDiffers stored given) old new status read ends why e = λ i is. absurd (why i is)
not_empty (ModeDiffers stored given) old new status read ends why e = λ i is. absurd (why i is)

module _ (old new : Option (List ℕ)) (status : ℕ) where
  module _ (g : SealedHistory) (kept : List ℕ) where
    empty_kept : EndsOr notempty_line 14 old new status → EndsKept g kept old new status
    empty_kept (inl e) = inr (inl e)
    empty_kept (inr e) = inr (inr (inl e))

    -- what is printed is one of the lines that may be
    pub unbegun_kept : (fault : BeginFault)
        → EndsOr (begin_line fault) (begin_status fault) old new status
        → EndsKept g kept old new status
    unbegun_kept DiskFailed (inl e) = inr (inr (inr e))
    unbegun_kept DiskFailed (inr e) = inr (inr (inl e))
    unbegun_kept NoMemory (inl e) = inr (inr (inl e))
    unbegun_kept NoMemory (inr e) = inr (inr (inl e))
    unbegun_kept NotAStore ends = empty_kept ends
    unbegun_kept (Damaged area place) ends = empty_kept ends
    unbegun_kept (BaseDiffers stored given) ends = empty_kept ends
    unbegun_kept (SurfaceDiffers stored given) ends = empty_kept ends
    unbegun_kept (ModeDiffers stored given) ends = empty_kept ends

  module _ (faults : Type 0) (six : status ≡ 6 → faults) where
    seven : EndsOr memory_line 7 old new status → (faults → ⊥) → status ≡ 7
    seven (inl e) none = in_seven old new status faults six e none
    seven (inr e) none = in_seven old new status faults six e none

    empty_or_seven : EndsOr notempty_line 14 old new status → (faults → ⊥)
        → (status ≡ 14) ⊎ (status ≡ 7)
    empty_or_seven (inl (inl q)) none = inl q.0
    empty_or_seven (inl (inr q)) none = absurd (none (six q.0))
    empty_or_seven (inr e) none = inr (in_seven old new status faults six e none)

    on_unborn : (i : Image) (fault : BeginFault) → IsBeginAtFault i fault
        → EndsOr (begin_line fault) (begin_status fault) old new status
        → (fault ≡ DiskFailed → faults) → IsUnborn i.book → (faults → ⊥)
        → (status ≡ 0) ⊎ (status ≡ 7)
    on_unborn i DiskFailed why ends call unborn none = absurd (none (call refl))
    on_unborn i NoMemory why ends call unborn none = inr (seven ends none)
    on_unborn i NotAStore why ends call unborn none = absurd (why unborn)
    on_unborn i (Damaged area place) why ends call unborn none = absurd why
    on_unborn i (BaseDiffers stored given) why ends call unborn none = absurd why
    on_unborn i (SurfaceDiffers stored given) why ends call unborn none = absurd why
    on_unborn i (ModeDiffers stored given) why ends call unborn none = absurd why

    on_born : (i : Image) (fault : BeginFault) → IsBeginAtFault i fault
        → EndsOr (begin_line fault) (begin_status fault) old new status
        → (fault ≡ DiskFailed → faults) → (faults → ⊥) → (status ≡ 14) ⊎ (status ≡ 7)
    on_born i DiskFailed why ends call none = absurd (none (call refl))
    on_born i NoMemory why ends call none = inr (seven ends none)
    on_born i NotAStore why ends call none = empty_or_seven ends none
    on_born i (Damaged area place) why ends call none = absurd why
    on_born i (BaseDiffers stored given) why ends call none = absurd why
    on_born i (SurfaceDiffers stored given) why ends call none = absurd why
    on_born i (ModeDiffers stored given) why ends call none = absurd why

    pub unbegun_by : (read : Option Image) (fault : BeginFault)
        → Told read (λ i. IsBeginAtFault i fault)
        → EndsOr (begin_line fault) (begin_status fault) old new status
        → (fault ≡ DiskFailed → faults) → EndsBy read status faults
    unbegun_by read fault why ends call = record {
      unborn = λ i is unborn none. on_unborn i fault (why i is) ends call unborn none;
      born = λ i is born none. on_born i fault (why i is) ends call none;
    }
