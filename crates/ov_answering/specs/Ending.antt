-- How an answering ends: what is printed, its status, its key file, its words and its disk.
use Rattle.std.specs.Prelude.{◌≡◌, ◌⊎◌, ℕ, List, Option, IfSome}
use Rattle.std.specs.Io.KnownBytes.{Appends}
use Rattle.ov_base.specs.declared.mode.Mode.{Mode}
use Rattle.ov_disk.specs.Calls.{IsDiskCall}
use Rattle.ov_disk.specs.Disk.{Image}
use Rattle.ov_disk.specs.Moments.{LeavesOnly}
use Rattle.ov_disk.specs.Tells.{DiskTells}
use Rattle.ov_images.specs.Images.{Opens}
use Rattle.ov_keyfile.specs.KeyFile.{HasMasters}
use Rattle.ov_history.specs.Masters.{Masters}
use Rattle.ov_history.specs.Plain.{PlainHistory}
use Rattle.ov_store.specs.declared.fault.BeginFault.{BeginFault}
use Rattle.ov_report.specs.Ends.{EndsIn, EndsOr}
use Rattle.ov_report.specs.Faults.{fault_line, fault_status}
use Rattle.ov_answering.specs.Judging.{IsRefusal}
use Rattle.ov_answering.specs.Lasting.{Lasts, Survives}
use Rattle.ov_answering.specs.Printing.{Outcome, status_of, Prints, PrintsFront, keys_line}
use Rattle.ov_answering.specs.Printing.{read_line, usage_line, IsAnswered, IsRefused, IsStatus}

-- ---- what is printed

-- What some outcome prints was put whole, and the status is the outcome's; or a front of it, and
-- the status is 6.
pub data Concluded (h : PlainHistory) (text : List ℕ) (old new : Option (List ℕ)) (status : ℕ)
    : Type 0 where
  whole : (outcome : Outcome) → status ≡ status_of outcome → Prints h text outcome old new
      → Concluded h text old new status
  part : status ≡ 6 → PrintsFront h text old new → Concluded h text old new status

-- ---- the key file and the words

-- What a run makes of the file that is to be its key file. The script is answered only with one,
-- and only without one the status is 10, with which the script and the disk stay as they are.
-- Without one they stay so whatever the status, and a run that the words ask for ends in the line
-- on the key file or in that on a failed read.
pub record JudgesKeys (asked : Type 0) (keys : Option (List ℕ)) (status : ℕ)
    (old new : Option (List ℕ)) (untouched : Type 0) : Type 0 where
  pub masters : IsAnswered status → IfSome keys HasMasters
  pub none : status ≡ 10 → IfSome keys (λ file. HasMasters file → ⊥)
  pub line : status ≡ 10 → Appends old new keys_line
  pub kept : status ≡ 10 → untouched
  pub unread : IfSome keys (λ file. (HasMasters file → ⊥) → untouched)
  pub ends : asked → IfSome keys (λ file. (HasMasters file → ⊥)
      → EndsIn keys_line 10 old new status ⊎ EndsIn read_line 5 old new status)

-- Other words are refused with the line on them, and all files stay as they are.
pub record RefusesWords (other : Type 0) (status : ℕ) (old new : Option (List ℕ))
    (untouched : Type 0) : Type 0 where
  pub usage : status ≡ 2 → other × Appends old new usage_line
  pub ends : other → EndsIn usage_line 2 old new status
  pub unread : other → untouched

-- The status is one of those that a run has. A call of the disk is said to have failed only where
-- its count of faults rose, a read only where a count of what is read did, and a write only where
-- that of the sink did; and a tag to be wrong only with the line on it, and where the disk doesn't
-- tell its bytes.
pub record FailsForFaults (status : ℕ) (disks reads writes tags : Type 0) : Type 0 where
  pub some : IsStatus status
  pub tag : status ≡ 12 → tags
  pub disk : status ≡ 4 → disks
  pub read : status ≡ 5 → reads
  pub write : status ≡ 6 → writes

-- What a run leaves of its disk, and why it ends with the status of a fault: with 4 only where the
-- disk's count of faults rose, with 5 only where one of what is read did, with 6 only where that of
-- the sink did, and with 12 only for a tag that is wrong.
pub record EndsFor {D : Type 0} (tells : DiskTells D) (old new : D) (status : ℕ)
    (reads writes tags : Type 0) : Type 0 where
  pub disk : IsDiskCall tells (status ≡ 4) old new
  pub read : status ≡ 5 → reads
  pub write : status ≡ 6 → writes
  pub tag : status ≡ 12 → tags

-- ---- the disk

-- What a run under these masters makes of the image that its disk reads. With 8 and 9 it says why
-- the image doesn't open, and it never ends with them on an image that opens. Where the image
-- doesn't open, the run says so, or that a call of the disk failed or memory was refused, or it
-- ends with a failed read of the key file; the script isn't read, and a crash leaves what it might
-- have left at the start.
pub record JudgesImage (k : Masters) (mode : Mode) (i : Image) (status : ℕ)
    (old new : Option (List ℕ)) (script_unread nothing_written : Type 0) : Type 0 where
  pub refused : IsRefused status → (fault : BeginFault) × IsRefusal k mode i fault
      × (status ≡ fault_status fault) × Appends old new (fault_line fault)
  pub opened : Opens k mode i → IsRefused status → ⊥
  pub ends : (Opens k mode i → ⊥)
      → ((fault : BeginFault) × IsRefusal k mode i fault
      × EndsOr (fault_line fault) (fault_status fault) old new status)
      ⊎ EndsIn read_line 5 old new status
  pub unread : (Opens k mode i → ⊥) → script_unread
  pub unwritten : (Opens k mode i → ⊥) → nothing_written

module _ {D : Type 0} (tells : DiskTells D) where
  -- a crash at any moment leaves what it might have left at the start
  abbrev pub LeavesAsAtStart : D → D → Type 0
  LeavesAsAtStart first last = LeavesOnly tells first last (tells.may_leave first)

  -- how a run ends over this script, from a disk that stands for the history where this holds
  pub record EndsAs (k : Masters) (p : PlainHistory) (text : List ℕ) (first last : D)
      (old new : Option (List ℕ)) (status : ℕ) (holds : Type 0) : Type 0 where
    pub concluded : Concluded p text old new status
    pub survives : holds → Survives tells k p text first last old new
    pub lasts : holds → status ≡ 0 → Lasts tells k p text last
