-- The updates of an open store with the bytes of their files, read again one by one.
use Rattle.std.specs.Prelude.{◌≡◌, ◌≤◌, ◌<◌, ◌+◌, ℕ, Bool, List, [], ◌∷◌, ◌++◌, length, take, Option, Some, None}
use Rattle.std.specs.Prelude.{IfSome, Result, Ok, Err, replicate, ⊤}
use Rattle.ov_disk.specs.Disk.{Image, Told}
use Rattle.ov_disk.specs.Tells.{DiskTells}
use Rattle.ov_record.specs.Briefs.{Brief as SpelledBrief, text_of}
use Rattle.ov_record.specs.Updates.{SealedUpdate as SpelledUpdate, sealed_update}
use Rattle.ov_record.specs.declared.update.Update.{Update}
use Rattle.ov_history.specs.Briefs.{brief, numbered_brief}
use Rattle.ov_history.specs.Fading.{faded_if, is_gone_from}
use Rattle.ov_history.specs.History.{matrix_of}
use Rattle.ov_history.specs.Sealed.{SealedHistory, file_names_of, outer_of}
use Rattle.ov_history.specs.Sent.{SealedUpdate, numbered}
use Rattle.ov_images.specs.Damage.{BeginsWith}
use Rattle.ov_images.specs.Records.{form_behind}
use Rattle.ov_journal.specs.Log.{Log}
use Rattle.ov_placed.specs.Contents.{PlacedStore}
use Rattle.ov_state.specs.declared.state.TheConstants.{WIDTH}
use Rattle.ov_store.specs.Briefs.{body_at}
use Rattle.ov_store.specs.Opened.{Opened, Serves}
use Rattle.ov_store.specs.Owners.{HasTextIn, is_gone_in, with_first}
use Rattle.ov_store.specs.declared.briefs.BriefFault.{BriefFault}
use Rattle.ov_store.specs.declared.briefs.BriefFault.TheVariants.{Changed, Disk as DiskFailed}
use Rattle.ov_store.specs.declared.briefs.BriefFault.TheVariants.{Memory}

-- these bytes are zeros
abbrev pub IsZeros : List ℕ → Type 0
IsZeros bytes = bytes ≡ replicate (length bytes) 0

-- the update makes no file, or one of zeros
abbrev pub HasZeros : SpelledUpdate → Type 0
HasZeros u = IfSome (text_of u) IsZeros

-- how many numbers were given to files before update number `i`
abbrev pub files_before : SealedHistory → ℕ → ℕ
files_before g i = length (matrix_of (outer_of (with_first g (take i g.updates)))).files

-- With these names of files the spelled update is this one: it has its tokens and its tag, and its
-- bytes too, unless the test says that its file is gone.
abbrev pub IsWholeOf : List (List ℕ) → Bool → SealedUpdate → SpelledUpdate → Type 0
IsWholeOf names gone u w =
    (brief (numbered names w) ≡ brief u) × (faded_if gone (numbered names w) ≡ faded_if gone u)

-- This is update number `i` of the history as it was sent, where a file that is replaced has the
-- name that it had then; but for the bytes of the file that it makes, where that is gone at the
-- history's end. This file has the number `file`.
pub record IsWholeAt (g : SealedHistory) (i file : ℕ) (w : SpelledUpdate) : Type 0 where
  pub update : SealedUpdate
  pub rest : List SealedUpdate
  pub split : g.updates ≡ take i g.updates ++ update ∷ rest
  pub more : take (i + 1) g.updates ≡ take i g.updates ++ update ∷ []
  pub whole : let names = file_names_of (with_first g (take i g.updates)) in
      IsWholeOf names (is_gone_from g file) update w

-- What is answered for update number `i`, of each history for which the store stands and in which so
-- many numbers were given to files before it, where the disk tells its bytes: the update, or that
-- there are no more. That its record changed is never answered there. Refused memory and a fault of
-- the disk say nothing.
abbrev pub ReadsWhole : {D : Type 0} → DiskTells D → Opened D → ℕ → ℕ
    → Result (Option (Update WIDTH)) BriefFault → Type 0
ReadsWhole tells s i file (Ok (Some w)) =
    (g : SealedHistory) → Serves tells g s → file ≡ files_before g i
    → Told (tells.reads s.disk) (λ _. IsWholeAt g i file (sealed_update w))
ReadsWhole tells s i file (Ok None) =
    (g : SealedHistory) → Serves tells g s
    → Told (tells.reads s.disk) (λ _. length g.updates ≤ i)
ReadsWhole tells s i file (Err DiskFailed) = ⊤
ReadsWhole tells s i file (Err (Changed place)) =
    (g : SealedHistory) → Serves tells g s → file ≡ files_before g i
    → Told (tells.reads s.disk) (λ _. ⊥)
ReadsWhole tells s i file (Err Memory) = ⊤

-- ---- inner: no public contract needs these

-- What is found at record `i` of a journal, where the disk tells its bytes: the update that it begins
-- with, for each way to number the files; that it begins with none whose file has its text there; or
-- that there is no such record.
abbrev pub FindsWhole : Option Image → List ℕ → Log → PlacedStore → ℕ → ℕ
    → Result (Option (Update WIDTH)) BriefFault → Type 0
FindsWhole reads master log store i file (Ok (Some w)) =
    (i < length log.offsets)
    × Told reads (λ d. (b : SpelledBrief) × BeginsWith (form_behind log.step i) b (body_at d i)
    × ((names : List (List ℕ)) (u : SealedUpdate) → brief u ≡ numbered_brief names b
    → HasTextIn master store file d.blobs u
    → IsWholeOf names (is_gone_in store.catalogue file) u (sealed_update w)))
FindsWhole reads master log store i file (Ok None) = length log.offsets ≤ i
FindsWhole reads master log store i file (Err DiskFailed) = ⊤
FindsWhole reads master log store i file (Err (Changed place)) =
    (i < length log.offsets)
    × Told reads (λ d. (b : SpelledBrief) → BeginsWith (form_behind log.step i) b (body_at d i)
    → (names : List (List ℕ)) (u : SealedUpdate) → brief u ≡ numbered_brief names b
    → HasTextIn master store file d.blobs u → ⊥)
FindsWhole reads master log store i file (Err Memory) = ⊤
