-- What a store stands for that was opened so that its updates are read again, and why an image is
-- refused.
use Rattle.std.specs.Io.KnownBytes.{Appends}
use Rattle.std.specs.Prelude.{ℕ, ◌≡◌, ◌⊎◌, List, Option, Some, false}
use Rattle.ov_answering.specs.Judging.{HasFalseRecord}
use Rattle.ov_answering.specs.Printing.{IsRefused, read_line}
use Rattle.ov_base.specs.declared.mode.Mode.{Mode}
use Rattle.ov_disk.specs.Disk.{Image, Told}
use Rattle.ov_disk.specs.Tells.{DiskTells}
use Rattle.ov_disk.specs.declared.area.Area.TheVariants.{Book}
use Rattle.ov_history.specs.FadingLaws.{IsRight}
use Rattle.ov_history.specs.Masters.{Masters}
use Rattle.ov_history.specs.Plain.{PlainHistory}
use Rattle.ov_history.specs.Sealed.{SealedHistory}
use Rattle.ov_images.specs.Images.{Keeps, Opens, keys_of}
use Rattle.ov_journal.specs.Standing.{IsUnborn}
use Rattle.ov_report.specs.Ends.{EndsIn, EndsOr}
use Rattle.ov_report.specs.Faults.{fault_line, fault_status}
use Rattle.ov_store.specs.Opened.{Opened, Serves}
use Rattle.ov_store.specs.Opening.{IsOpenFault}
use Rattle.ov_store.specs.declared.fault.BeginFault.{BeginFault}
use Rattle.ov_store.specs.declared.fault.BeginFault.TheVariants.{Damaged, Disk as DiskFailed, Memory as NoMemory}

-- Why the image is refused under these masters: no store is opened on it, for this reason; or it
-- keeps a history, and this names the first record that isn't its owner's.
abbrev pub IsOpenRefusal : Masters → Image → BeginFault → Type 0
IsOpenRefusal k i fault =
    IsOpenFault (keys_of k) i fault
    ⊎ ((place : ℕ) × (fault ≡ Damaged Book place) × ((mode : Mode) × HasFalseRecord k mode i place))

-- the image has a store that opens for these masters, in its own mode
abbrev pub OpensBorn : Masters → Image → Type 0
OpensBorn k i = (IsUnborn i.book → ⊥) × ((mode : Mode) × Opens k mode i)

-- What a program that reads a store again makes, under these masters, of the image that its disk
-- reads. With 8 and 9 it says why the image is refused, and it never ends with them on an image that
-- opens. Where the image doesn't open, it ends in the line that says why, or that a call of the disk
-- failed or memory was refused, or in that on a failed read of the key file.
pub record JudgesStore (k : Masters) (i : Image) (status : ℕ) (old new : Option (List ℕ))
    : Type 0 where
  pub refused : IsRefused status → (fault : BeginFault) × IsOpenRefusal k i fault
      × (status ≡ fault_status fault) × Appends old new (fault_line fault)
  pub opened : OpensBorn k i → IsRefused status → ⊥
  pub ends : (OpensBorn k i → ⊥)
      → ((fault : BeginFault) × IsOpenRefusal k i fault
      × EndsOr (fault_line fault) (fault_status fault) old new status)
      ⊎ EndsIn read_line 5 old new status

-- A store that was opened on this image, all of whose updates are its owner's: it stands for each
-- history that is right for the masters and that the image keeps.
pub record IsOpenOf {D : Type 0} (tells : DiskTells D) (k : Masters) (read : Option Image)
    (s : Opened D) : Type 0 where
  pub keys_are : s.keys ≡ keys_of k
  pub healthy : s.failed ≡ false
  pub opens : Told read (OpensBorn k)
  pub each : Told read (λ i. (p : PlainHistory) (g : SealedHistory)
      → IsRight k p g → Keeps (keys_of k) g i → Serves tells g s)
  pub same : Told read (λ i. tells.reads s.disk ≡ Some i)

-- why none was opened: on an image that opens, the disk failed or memory was refused
pub record RefusesStore (k : Masters) (i : Image) (fault : BeginFault) : Type 0 where
  pub why : IsOpenRefusal k i fault
  pub opens : OpensBorn k i → (fault ≡ DiskFailed) ⊎ (fault ≡ NoMemory)
