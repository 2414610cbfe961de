-- Inner: no public contract needs this. What the new disk gets while a store is written to it.
use Rattle.std.specs.Prelude.{◌≡◌, ◌⊎◌, ℕ, List, Option}
use Rattle.ov_disk.specs.Disk.{Told}
use Rattle.ov_disk.specs.Tells.{DiskTells}
use Rattle.ov_disk.specs.declared.area.Area.TheVariants.{Book}
use Rattle.ov_history.specs.Sealed.{SealedHistory, outer_of}
use Rattle.ov_images.specs.Images.{Keys}
use Rattle.ov_store.specs.Opened.{Opened, Serves}
use Rattle.ov_replaying.specs.Statuses.{IsFoundStatus}
use Rattle.ov_report.specs.Ends.{EndsIn}
use Rattle.ov_report.specs.Faults.{disk_line, memory_line}
use Rattle.ov_store.specs.declared.fault.BeginFault.{BeginFault}
use Rattle.ov_store.specs.declared.fault.BeginFault.TheVariants.{BaseDiffers, Damaged, Memory}
use Rattle.ov_store.specs.declared.fault.BeginFault.TheVariants.{Disk as DiskFailed, NotAStore}
use Rattle.ov_store.specs.declared.fault.BeginFault.TheVariants.{ModeDiffers, SurfaceDiffers}
use Rattle.ov_thinning.specs.Thin.{AreThinned}
use Rattle.ov_tidy.specs.Agreeing.{IsCopyOf}
use Rattle.ov_tidy.specs.declared.copying.CopyFault.{CopyFault}
use Rattle.ov_tidy.specs.declared.copying.CopyFault.TheVariants.{Changed, Disk as CopyFailed}
use Rattle.ov_tidy.specs.declared.copying.CopyFault.TheVariants.{Memory as CopyMemory}
use Rattle.ov_tidying.specs.Lines.{notempty_line}
use Rattle.ov_tidying.specs.Promises.{EndsBy, EndsEarly, EndsKept, tidied}
use Rattle.ov_tidying.specs.Shorter.{Gets}

-- These places are kept of the history, and the new disk gets a copy of the shorter one.
pub record WritesCopy {E : Type 0} (tells : DiskTells E) (k : Keys) (g : SealedHistory)
    (kept : List ℕ) (status : ℕ) (old new : Option (List ℕ)) (first last : E) : Type 0 where
  pub thinned : AreThinned (outer_of g) kept
  pub history : SealedHistory
  pub copy : IsCopyOf g kept history
  pub gets : Gets tells k history status first last
  pub ends : EndsKept g kept old new status

-- What is made of a history for which the old store stands: the new disk gets a copy, or a fault came
-- before and the new disk is as it was.
pub record MakesCopy {E : Type 0} (tells : DiskTells E) (k : Keys) (g : SealedHistory) (status : ℕ)
    (old new : Option (List ℕ)) (first last : E) (faults : Type 0) : Type 0 where
  pub made : ((kept : List ℕ) × WritesCopy tells k g kept status old new first last)
      ⊎ (EndsEarly old new status × (last ≡ first))
  pub ends : EndsBy (tells.reads first) status faults

-- this holds of each history for which the old store stands, where both disks tell their bytes
abbrev pub ForEachOld : {D E : Type 0} → DiskTells D → DiskTells E → Opened D → E
    → (SealedHistory → Type 0) → Type 0
ForEachOld olds news s first P =
    (g : SealedHistory) → Serves olds g s
    → Told (olds.reads s.disk) (λ _. Told (news.reads first) (λ _. P g))

-- where the disk tells its bytes, the store stands for some history of which these places are kept
abbrev pub HasThinned : {D : Type 0} → DiskTells D → Opened D → List ℕ → Type 0
HasThinned tells s kept =
    Told (tells.reads s.disk) (λ _.
    (g : SealedHistory) × Serves tells g s × AreThinned (outer_of g) kept)

-- ---- once the new store is begun

-- The copy is whole at 0, and what is printed then was put; or memory was refused or a call of a disk
-- failed.
pub record EndsCopied {E : Type 0} (tells : DiskTells E) (g : SealedHistory) (kept : List ℕ)
    (status : ℕ) (old new : Option (List ℕ)) (after : Opened E) : Type 0 where
  pub ends : EndsIn (tidied g kept) 0 old new status
      ⊎ (EndsIn memory_line 7 old new status ⊎ EndsIn disk_line 4 old new status)
  pub whole : status ≡ 0 → (h : SealedHistory) × IsCopyOf g kept h × Serves tells h after

-- It ends with 4 only where a count of a disk rose, with 6 only where that of the sink did, and with
-- no status but those of a reading.
pub record CopyEnds (status : ℕ) (disks writes : Type 0) : Type 0 where
  pub disk : status ≡ 4 → disks
  pub read : status ≡ 5 → ⊥
  pub write : status ≡ 6 → writes
  pub some : IsFoundStatus status

-- ---- faults

-- why not all was copied, as what is said of a store that isn't opened
abbrev pub fault_for : CopyFault → BeginFault
fault_for CopyFailed = DiskFailed
fault_for (Changed place) = Damaged Book place
fault_for CopyMemory = Memory

-- the line on a new store that isn't begun
abbrev pub begin_line : BeginFault → List ℕ
begin_line DiskFailed = disk_line
begin_line NotAStore = notempty_line
begin_line (Damaged area place) = notempty_line
begin_line (BaseDiffers stored given) = notempty_line
begin_line (SurfaceDiffers stored given) = notempty_line
begin_line (ModeDiffers stored given) = notempty_line
begin_line Memory = memory_line

-- and the status
abbrev pub begin_status : BeginFault → ℕ
begin_status DiskFailed = 4
begin_status NotAStore = 14
begin_status (Damaged area place) = 14
begin_status (BaseDiffers stored given) = 14
begin_status (SurfaceDiffers stored given) = 14
begin_status (ModeDiffers stored given) = 14
begin_status Memory = 7
