-- What is promised of a shorter store.
use Rattle.std.specs.Prelude.{◌≡◌, ◌⊎◌, ◌++◌, [], ◌∷◌, ℕ, List, Option, IfSome, String, codes}
use Rattle.std.specs.Prelude.{length, map, string_bytes}
use Rattle.std.specs.declared.alloc.Global.{Global}
use Rattle.ov_answering.specs.Printing.{read_line}
use Rattle.ov_base.specs.Causes.{Rose}
use Rattle.ov_disk.specs.Calls.{IsDiskCall}
use Rattle.ov_disk.specs.Disk.{Image, Told}
use Rattle.ov_disk.specs.Tells.{DiskTells}
use Rattle.ov_history.specs.FadingLaws.{IsRight}
use Rattle.ov_history.specs.History.{epoch_of}
use Rattle.ov_history.specs.Masters.{Masters}
use Rattle.ov_history.specs.Plain.{PlainHistory}
use Rattle.ov_history.specs.Sealed.{SealedHistory, outer_of}
use Rattle.ov_images.specs.Images.{Keeps, keys_of}
use Rattle.ov_journal.specs.Standing.{IsUnborn}
use Rattle.ov_machine.specs.Machine.{AreMasters}
use Rattle.ov_replaying.specs.Opening.{JudgesStore, OpensBorn}
use Rattle.ov_replaying.specs.Statuses.{IsAskedStatus}
use Rattle.ov_report.specs.Ends.{EndsIn}
use Rattle.ov_report.specs.Faults.{disk_line, memory_line}
use Rattle.ov_script.specs.Lines.{reply_line}
use Rattle.ov_script.specs.declared.reply.Reply.TheVariants.{End}
use Rattle.ov_store.specs.Beginning.{WritesNoBorn}
use Rattle.ov_thinning.specs.Thin.{AreThinned}
use Rattle.ov_tidying.specs.Lines.{notempty_line, tidied_line}
use Rattle.ov_tidying.specs.Shorter.{HasShorter}

-- ---- the words

-- the one word `tidy`
abbrev pub IsTidy : List (String Global) → Type 0
IsTidy words = map string_bytes words ≡ codes "tidy" ∷ []

-- words that ask for no shorter store
abbrev pub IsNoTidy : List (String Global) → Type 0
IsNoTidy words = IsTidy words → ⊥

-- ---- what is printed

-- what is printed where these places of the history are kept
abbrev pub tidied : SealedHistory → List ℕ → List ℕ
tidied g kept =
    tidied_line (length g.updates) (length kept) ++ reply_line (End (epoch_of (outer_of g)))

-- It ends in the line on refused memory, on a call of a disk that failed, or on a failed read.
abbrev pub EndsEarly : Option (List ℕ) → Option (List ℕ) → ℕ → Type 0
EndsEarly old new status =
    EndsIn memory_line 7 old new status
    ⊎ (EndsIn disk_line 4 old new status ⊎ EndsIn read_line 5 old new status)

-- It ends in what is printed of these places, in the line on a new disk that isn't empty, or in one of
-- those on refused memory and on a call of a disk that failed.
abbrev pub EndsKept : SealedHistory → List ℕ → Option (List ℕ) → Option (List ℕ) → ℕ → Type 0
EndsKept g kept old new status =
    EndsIn (tidied g kept) 0 old new status
    ⊎ (EndsIn notempty_line 14 old new status
    ⊎ (EndsIn memory_line 7 old new status ⊎ EndsIn disk_line 4 old new status))

-- Unless some count of faults rose the end is 0 on an unborn new disk and 14 on any other or, where
-- memory was refused, 7.
pub record EndsBy (read : Option Image) (status : ℕ) (faults : Type 0) : Type 0 where
  pub unborn : Told read (λ i. IsUnborn i.book → (faults → ⊥) → (status ≡ 0) ⊎ (status ≡ 7))
  pub born : Told read (λ i. (IsUnborn i.book → ⊥) → (faults → ⊥)
      → (status ≡ 14) ⊎ (status ≡ 7))

-- The updates of these places are kept of the history, and the new disk gets the shorter one.
pub record WritesShorter {E : Type 0} (tells : DiskTells E) (k : Masters) (p : PlainHistory)
    (g : SealedHistory) (status : ℕ) (old new : Option (List ℕ)) (first last : E) : Type 0 where
  pub kept : List ℕ
  pub thinned : AreThinned (outer_of g) kept
  pub ends : EndsKept g kept old new status
  pub shorter : HasShorter tells k p g kept status first last

-- What is made of a history for which the old disk stands: the new disk gets the shorter one, or a
-- fault came before and the new disk is as it was.
pub record Tidies {E : Type 0} (tells : DiskTells E) (k : Masters) (p : PlainHistory)
    (g : SealedHistory) (status : ℕ) (old new : Option (List ℕ)) (first last : E) (faults : Type 0)
    : Type 0 where
  pub made : WritesShorter tells k p g status old new first last
      ⊎ (EndsEarly old new status × (last ≡ first))
  pub ends : EndsBy (tells.reads first) status faults

-- What is made of the image that the old disk reads: as by every program that reads a store again; and
-- where it doesn't open, the new disk is as it was.
abbrev pub JudgesOld : Masters → Image → ℕ → Option (List ℕ) → Option (List ℕ) → Type 0 → Type 0
JudgesOld k i status old new untouched =
    JudgesStore k i status old new × ((OpensBorn k i → ⊥) → untouched)

-- ---- its status

-- it has one of these statuses
abbrev pub IsTidyStatus : ℕ → Type 0
IsTidyStatus status = (status ≡ 2) ⊎ ((status ≡ 14) ⊎ IsAskedStatus status)

-- What a call leaves of both disks, and why it ends with the status of a fault: with 4 only where a
-- count of faults of one of the two rose, with 5 only where one of what is read did, with 6 only where
-- that of the sink did, and with 14 only where the new disk isn't unborn. A new disk that isn't unborn
-- is left as it was.
pub record EndsOnBoth {D E : Type 0} (olds : DiskTells D) (news : DiskTells E) (old old_after : D)
    (new new_after : E) (status : ℕ) (reads writes : Type 0) : Type 0 where
  pub old_call : IsDiskCall olds ⊥ old old_after
  pub new_call : IsDiskCall news ⊥ new new_after
  pub disk : status ≡ 4 → Rose (olds.faults old) (olds.faults old_after)
      ⊎ Rose (news.faults new) (news.faults new_after)
  pub read : status ≡ 5 → reads
  pub write : status ≡ 6 → writes
  pub notempty : status ≡ 14 → Told (news.reads new) (λ i. IsUnborn i.book → ⊥)
  pub born : WritesNoBorn news new new_after

-- The status is one of those that there are. A call of a disk is said to have failed only where a
-- count of faults of one of the two rose, a read only where that of the key file did, and a write
-- only where that of the sink did; and the new disk not to be empty only where it isn't unborn.
pub record TidyFails (status : ℕ) (disks reads writes born : Type 0) : Type 0 where
  pub some : IsTidyStatus status
  pub disk : status ≡ 4 → disks
  pub read : status ≡ 5 → reads
  pub write : status ≡ 6 → writes
  pub notempty : status ≡ 14 → born

-- ---- from where

-- where the words ask for it, this holds under the masters of the key file, for the image that the old
-- disk reads
abbrev pub ForImage : Option Image → Type 0 → Option (List ℕ) → (Masters → Image → Type 0) → Type 0
ForImage old asked keys P =
    asked → IfSome keys (λ file. (k : Masters) → AreMasters file k → Told old (P k))

-- so where the new disk tells its bytes too
abbrev pub ForOldImage : Option Image → Option Image → Type 0 → Option (List ℕ)
    → (Masters → Image → Type 0) → Type 0
ForOldImage old new asked keys P = ForImage old asked keys (λ k i. Told new (λ _. P k i))

-- this holds of each history that is right for the masters and that the image keeps
abbrev pub ForEachRight : Masters → Image → (PlainHistory → SealedHistory → Type 0) → Type 0
ForEachRight k i P =
    (p : PlainHistory) (g : SealedHistory) → IsRight k p g → Keeps (keys_of k) g i → P p g
