-- Why a run refuses the image of its disk, and on what it begins.
use Rattle.std.specs.Prelude.{◌≡◌, ◌⊎◌, ℕ, Option, Some, None, Result, Ok, Err, ⊤}
use Rattle.ov_base.specs.declared.mode.Mode.{Mode}
use Rattle.ov_disk.specs.Disk.{Image}
use Rattle.ov_disk.specs.declared.area.Area.TheVariants.{Book}
use Rattle.ov_disk.specs.Tells.{DiskTells}
use Rattle.ov_journal.specs.Book.{contents_of}
use Rattle.ov_journal.specs.declared.fault.CheckFault.{CheckFault}
use Rattle.ov_journal.specs.declared.fault.CheckFault.TheVariants.{Disk as NoDisk}
use Rattle.ov_journal.specs.declared.fault.CheckFault.TheVariants.{Memory as NoMemory}
use Rattle.ov_images.specs.Images.{IsImageOf, Keeps, Opens, keys_of}
use Rattle.ov_history.specs.Masters.{Masters}
use Rattle.ov_history.specs.Sealed.{SealedHistory}
use Rattle.ov_store.specs.Beginning.{IsBeginFault}
use Rattle.ov_store.specs.Opened.{Opened, Serves}
use Rattle.ov_store.specs.Owners.{Checks, HasFalseUpdate}
use Rattle.ov_store.specs.declared.begin.BeginRefused.{BeginRefused}
use Rattle.ov_store.specs.declared.fault.BeginFault.{BeginFault}
use Rattle.ov_store.specs.declared.fault.BeginFault.TheVariants.{Disk, NotAStore, Damaged}
use Rattle.ov_store.specs.declared.fault.BeginFault.TheVariants.{BaseDiffers, SurfaceDiffers}
use Rattle.ov_store.specs.declared.fault.BeginFault.TheVariants.{ModeDiffers, Memory}

-- The image keeps a history of this mode in which some update isn't as the owner with these masters
-- seals it, whatever the tags and the bytes are of files that are gone. The place is that of the
-- first such record's gate.
pub record HasFalseRecord (k : Masters) (mode : Mode) (i : Image) (place : ℕ) : Type 0 where
  pub history : SealedHistory
  pub mode_is : history.mode ≡ mode
  pub keeps : Keeps (keys_of k) history i
  pub first_false : HasFalseUpdate k (contents_of i.book).records.step history place

-- Why a run under these masters refuses the image: no store begins on it, for this reason; or it
-- keeps a history, and this names the first record with a token that isn't its owner's, or with
-- such a tag of a file that is there.
abbrev pub IsRefusal : Masters → Mode → Image → BeginFault → Type 0
IsRefusal k mode i fault =
    IsBeginFault (keys_of k) mode i fault
    ⊎ ((place : ℕ) × (fault ≡ Damaged Book place) × HasFalseRecord k mode i place)

-- ---- how a store is begun

-- Why no store was begun. On an image that opens, the disk failed or memory was refused.
pub record Refuses (k : Masters) (mode : Mode) (i : Image) (fault : BeginFault) : Type 0 where
  pub why : IsRefusal k mode i fault
  pub opens : Opens k mode i → (fault ≡ Disk) ⊎ (fault ≡ Memory)

-- The image opens for the masters and the mode, and the store stands for each history of the mode
-- for which the image stands.
pub record FindsPlain {D : Type 0} (tells : DiskTells D) (k : Masters) (mode : Mode) (i : Image)
    (s : Opened D) : Type 0 where
  pub some : Opens k mode i
  pub each : (g : SealedHistory) → g.mode ≡ mode → IsImageOf (keys_of k) g i → Serves tells g s

-- ---- what is found of the updates of a store

-- why the store isn't begun, if this was found
abbrev pub fault_for : Result (Option ℕ) CheckFault → Option BeginFault
fault_for (Ok None) = None
fault_for (Ok (Some place)) = Some (Damaged Book place)
fault_for (Err NoDisk) = Some Disk
fault_for (Err NoMemory) = Some Memory

-- Why a store that stands for this history, on this image, isn't begun: the first update that isn't
-- as its owner seals it has its gate at this place. Refused memory and a fault of the disk say nothing
-- of it.
abbrev pub IsCheckFault : Masters → Image → SealedHistory → BeginFault → Type 0
IsCheckFault k i g Disk = ⊤
IsCheckFault k i g NotAStore = ⊥
IsCheckFault k i g (Damaged area place) =
    (area ≡ Book) × HasFalseUpdate k (contents_of i.book).records.step g place
IsCheckFault k i g (BaseDiffers stored given) = ⊥
IsCheckFault k i g (SurfaceDiffers stored given) = ⊥
IsCheckFault k i g (ModeDiffers stored given) = ⊥
IsCheckFault k i g Memory = ⊤

-- The store that stands for this history, on this image, is handed on: no update is found that
-- isn't as its owner seals it, and it stands for it still. Or it isn't, for this reason.
abbrev pub IsChecked : {D : Type 0} → DiskTells D → Masters → Image → SealedHistory
    → Result (Opened D) (BeginRefused D) → Type 0
IsChecked tells k i g (Ok s) =
    Checks k (contents_of i.book).records.step g None × Serves tells g s
IsChecked tells k i g (Err refused) = IsCheckFault k i g refused.fault
