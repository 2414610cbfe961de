-- What an audit promises.
use Rattle.std.specs.Io.KnownBytes.{Appends}
use Rattle.std.specs.Prelude.{ℕ, ◌≡◌, ◌⊎◌, IfSome, List, Option, String}
use Rattle.std.specs.declared.alloc.Global.{Global}
use Rattle.ov_answering.specs.Printing.{read_line, usage_line}
use Rattle.ov_auditing.specs.AuditWords.{IsAudit}
use Rattle.ov_auditing.specs.Exposed.{IsPrinted}
use Rattle.ov_auditing.specs.declared.audit_words.Asked.{Asked}
use Rattle.ov_disk.specs.Disk.{Image, Told}
use Rattle.ov_history.specs.FadingLaws.{IsRight}
use Rattle.ov_history.specs.Masters.{Masters}
use Rattle.ov_history.specs.Plain.{PlainHistory}
use Rattle.ov_history.specs.Sealed.{SealedHistory}
use Rattle.ov_images.specs.Images.{Keeps, keys_of}
use Rattle.ov_machine.specs.Machine.{AreMasters}
use Rattle.ov_replaying.specs.Statuses.{IsAskedStatus}
use Rattle.ov_report.specs.Ends.{EndsIn, EndsOr}
use Rattle.ov_report.specs.Faults.{disk_line, memory_line}

-- ---- what is printed

-- An audit of these users ends in exactly what the history says of them, or in the line on refused
-- memory, on a call of the disk that failed, or on a failed read.
abbrev pub EndsTold : Asked → Masters → SealedHistory → Option (List ℕ) → Option (List ℕ) → ℕ
    → Type 0
EndsTold asked k g old new status =
    ((printed : List ℕ) × IsPrinted asked.names asked.server k.surface g printed
    × EndsIn printed 0 old new status)
    ⊎ (EndsIn memory_line 7 old new status
    ⊎ (EndsIn disk_line 4 old new status ⊎ EndsIn read_line 5 old new status))

-- What an audit of these users prints of a history. Unless some count of faults rose it ends with 0
-- or, where memory was refused, with 7.
pub record TellsOf (asked : Asked) (k : Masters) (g : SealedHistory) (status : ℕ)
    (old new : Option (List ℕ)) (faults : Type 0) : Type 0 where
  pub ends : EndsTold asked k g old new status
  pub complete : (faults → ⊥) → (status ≡ 0) ⊎ (status ≡ 7)

-- ---- the words

-- Other words are refused with the line on them, unless memory is refused while the list is read,
-- and all files stay as they are.
pub record RefusesOther (other : Type 0) (status : ℕ) (old new : Option (List ℕ))
    (untouched : Type 0) : Type 0 where
  pub usage : status ≡ 2 → other × Appends old new usage_line
  pub ends : other → EndsOr usage_line 2 old new status
  pub unread : other → untouched

-- ---- its status

-- an audit has one of these statuses
abbrev pub IsAuditStatus : ℕ → Type 0
IsAuditStatus status = (status ≡ 2) ⊎ IsAskedStatus status

-- The status is one of those that an audit has. A call of the disk is said to have failed only where
-- its count of faults rose, a read only where that of the key file did, and a write only where that
-- of the sink did.
pub record AuditFails (status : ℕ) (disks reads writes : Type 0) : Type 0 where
  pub some : IsAuditStatus status
  pub disk : status ≡ 4 → disks
  pub read : status ≡ 5 → reads
  pub write : status ≡ 6 → writes

-- ---- from where

-- This holds of what the words ask for, under the masters of the key file, and of each history that
-- is right for them and that the image keeps which the disk reads.
abbrev pub ForEachKept : Option Image → List (String Global) → Option (List ℕ)
    → (Asked → Masters → SealedHistory → Type 0) → Type 0
ForEachKept image words keys P =
    (asked : Asked) → IsAudit asked words → IfSome keys (λ file.
    (k : Masters) → AreMasters file k → Told image (λ i.
    (p : PlainHistory) (g : SealedHistory) → IsRight k p g → Keeps (keys_of k) g i → P asked k g))

-- this holds under the masters of the key file, for the image that the disk reads
abbrev pub ForAuditImage : Option Image → List (String Global) → Option (List ℕ)
    → (Masters → Image → Type 0) → Type 0
ForAuditImage image words keys P =
    (asked : Asked) → IsAudit asked words → IfSome keys (λ file.
    (k : Masters) → AreMasters file k → Told image (P k))
