-- What an audit notes while it sees one state of a store after the other, and what it finds.
use Rattle.std.specs.Prelude.{◌≡◌, ◌↔◌, ◌||◌, ℕ, ◌+◌, ◌<◌, Bool, true, false, List, [], ◌∷◌, length}
use Rattle.std.specs.Prelude.{◌≤◌, Contains, Option, Some, None, is_none, is_some, slice_get}
use Rattle.ov_base.specs.Sets.{Has, has, meets}
use Rattle.ov_history.specs.Sent.{SealedUpdate}
use Rattle.ov_history.specs.History.{matrix_of}
use Rattle.ov_history.specs.Places.{living_at}
use Rattle.ov_history.specs.Lists.{file_at}
use Rattle.ov_history.specs.Layers.{holders, layers_of}
use Rattle.ov_history.specs.Words.{HasFile, place_in}
use Rattle.ov_history.specs.Catalogue.{Catalogue, Filed, filed_at, matrix_shown, outline}
use Rattle.ov_history.specs.Sealed.{IsSealed, SealedHistory, catalogue_of, outer_of, with_sealed}
use Rattle.ov_exposure.specs.Exposure.{Bare, Cause, IsBareAt, IsExposed, IsFirstEpoch, IsListedAt}
use Rattle.ov_exposure.specs.Exposure.{IsMoment, Listed, Server, known_at}

-- ---- what is noted of a file

-- its name and base node, the epoch of its making, the first epochs at which a user was listed and at which it
-- was bare, and whether a user is a holder of the node now
pub record Note : Type 0 where
  pub name : List ℕ
  pub node : ℕ
  pub made : ℕ
  pub listed : Option ℕ
  pub bare : Option ℕ
  pub held : Bool

-- whether one of the users is in the set
abbrev pub any_in : List ℕ → ℕ → Bool
any_in [] set = false
any_in (user ∷ users) set = has set user || any_in users set

-- the users are the members of the set
abbrev pub AreMembers : List ℕ → ℕ → Type 0
AreMembers users set = (user : ℕ) → Contains users user ↔ Has set user

-- the epoch that was noted, and where there is none this one, if it is so now
abbrev pub noted : Bool → ℕ → Option ℕ → Option ℕ
noted now epoch (Some first) = Some first
noted true epoch None = Some epoch
noted false epoch None = None

-- whether a file that is there has no surface
abbrev pub is_bare : Option Filed → Bool
is_bare None = false
is_bare (Some f) = is_none f.surface

-- the note of a file that is new with this state, before any more is noted
abbrev pub new_note : Catalogue → ℕ → Note
new_note c file = record {
  name = (file_at (matrix_shown c) file).name;
  node = (filed_at c file).node;
  made = c.epoch;
  listed = None;
  bare = None;
  held = false;
}

-- the note after a look at this state
abbrev pub looked : List ℕ → Catalogue → ℕ → Note → Note
looked users c file note = record note {
  listed = noted (any_in users (file_at (matrix_shown c) file).list) c.epoch note.listed;
  bare = noted (is_bare (living_at c.files file)) c.epoch note.bare;
  held = any_in users (holders (outline c) note.node);
}

-- so of a file that was noted before, or is new
abbrev pub next_note : List ℕ → Catalogue → ℕ → Option Note → Note
next_note users c file None = looked users c file (new_note c file)
next_note users c file (Some note) = looked users c file note

-- the notes of all files after a look at this state
abbrev pub AreNext : List ℕ → Catalogue → List Note → List Note → Type 0
AreNext users c notes next =
    (length next ≡ length c.files)
    × ((file : ℕ) → file < length c.files
    → slice_get next file ≡ Some (next_note users c file (slice_get notes file)))

-- The state may be the next that an audit with these notes looks at: each file that was noted has its
-- number still, and at most one more has one, which is there.
pub record MayFollow (notes : List Note) (c : Catalogue) : Type 0 where
  pub noted : length notes ≤ length c.files
  pub few : length c.files ≤ length notes + 1
  pub there : length notes < length c.files
      → is_some (living_at c.files (length notes)) ≡ true

-- ---- what it is worth

-- it is the first epoch at which this holds, or there is none, and it never did
abbrev pub IsFirstIfAny : SealedHistory → (List SealedUpdate → Type 0) → Option ℕ → Type 0
IsFirstIfAny g holds (Some epoch) = IsFirstEpoch g holds epoch
IsFirstIfAny g holds None =
    (before : List SealedUpdate) → IsMoment g before → holds before → ⊥

-- the note tells of the file what the history made of it
pub record Tells (g : SealedHistory) (users : List ℕ) (file : ℕ) (note : Note) : Type 0 where
  pub made : IsFirstEpoch g (λ before. HasFile (known_at g before) file) note.made
  pub node : (before : List SealedUpdate) → IsMoment g before → HasFile (known_at g before) file
      → (place_in (known_at g before) file).node ≡ note.node
  pub name : (before : List SealedUpdate) → IsMoment g before → HasFile (known_at g before) file
      → (file_at (matrix_of (known_at g before)) file).name ≡ note.name
  pub listed : IsFirstIfAny g (λ before. IsListedAt g before users file) note.listed
  pub bare : IsFirstIfAny g (λ before. IsBareAt g before file) note.bare
  pub held : note.held ≡ any_in users (holders (layers_of (outer_of g)) note.node)

-- there is a note for each file, and it tells of it
abbrev pub HasSeen : SealedHistory → List ℕ → List Note → Type 0
HasSeen g users notes =
    (length notes ≡ length (matrix_of (outer_of g)).files)
    × ((file : ℕ) (note : Note) → slice_get notes file ≡ Some note → Tells g users file note)

-- ---- findings

-- why the file is exposed, and since which epoch, if it is
abbrev pub cause_by : Bool → Option ℕ → Bool → Option ℕ → ℕ → Option (Cause × ℕ)
cause_by server (Some epoch) held bare made = Some (Listed, epoch)
cause_by server None false bare made = None
cause_by server None true (Some epoch) made = Some (Bare, epoch)
cause_by true None true None made = Some (Server, made)
cause_by false None true None made = None

-- so by what was noted of it
abbrev pub cause_of : Bool → Note → Option (Cause × ℕ)
cause_of server note = cause_by server note.listed note.held note.bare note.made

-- a file that is exposed, with its name: why, and since which epoch
pub record Finding : Type 0 where
  pub file : ℕ
  pub name : List ℕ
  pub cause : Cause
  pub epoch : ℕ

-- these findings, and before them that of a file of this number and name, if there is one
abbrev pub found_as : ℕ → List ℕ → Option (Cause × ℕ) → List Finding → List Finding
found_as file name None findings = findings
found_as file name (Some (cause, epoch)) findings =
    record { file = file; name = name; cause = cause; epoch = epoch } ∷ findings

-- the findings by these notes, of files from this number on
abbrev pub findings_from : Bool → ℕ → List Note → List Finding
findings_from server file [] = []
findings_from server file (note ∷ notes) =
    found_as file note.name (cause_of server note) (findings_from server (file + 1) notes)

-- the file had this name while it was there
abbrev pub WasNamed : SealedHistory → ℕ → List ℕ → Type 0
WasNamed g file name =
    (before : List SealedUpdate) × IsMoment g before × HasFile (known_at g before) file
    × ((file_at (matrix_of (known_at g before)) file).name ≡ name)

-- ---- laws

-- of the members of a set one is in another just where the two sets meet
abbrev pub MeetsIsAny : Type 0
MeetsIsAny =
    (users : List ℕ) (named set : ℕ) → AreMembers users named
    → any_in users set ≡ meets named set

-- anyone who has noted nothing has seen the history without updates
abbrev pub NothingIsSeen : Type 0
NothingIsSeen =
    (g : SealedHistory) (users : List ℕ) → g.updates ≡ [] → HasSeen g users []

-- the state after one more update of a history that was seen may follow
abbrev pub NextMayFollow : Type 0
NextMayFollow =
    (master : List ℕ) (g : SealedHistory) (u : SealedUpdate) (users : List ℕ) (notes : List Note)
    → IsSealed (with_sealed g u) → HasSeen g users notes
    → MayFollow notes (catalogue_of master (with_sealed g u))

-- anyone who has seen a history, and looks at the state after one more update, has seen the longer one
abbrev pub AuditsGoOn : Type 0
AuditsGoOn =
    (master : List ℕ) (g : SealedHistory) (u : SealedUpdate) (users : List ℕ)
    (notes next : List Note)
    → IsSealed (with_sealed g u) → HasSeen g users notes
    → AreNext users (catalogue_of master (with_sealed g u)) notes next
    → HasSeen (with_sealed g u) users next

-- anyone who has seen a history finds of each file exactly why it is exposed, and since when
abbrev pub FindingsAreExact : Type 0
FindingsAreExact =
    (server : Bool) (g : SealedHistory) (users : List ℕ) (file : ℕ) (note : Note) (cause : Cause)
    (epoch : ℕ)
    → Tells g users file note
    → (cause_of server note ≡ Some (cause, epoch)) ↔ IsExposed server g users file cause epoch

-- its findings are exactly the files that are exposed, files that are gone included, each with its
-- name
abbrev pub FindingsAreThose : Type 0
FindingsAreThose =
    (server : Bool) (g : SealedHistory) (users : List ℕ) (notes : List Note) (x : Finding)
    → HasSeen g users notes
    → Contains (findings_from server 0 notes) x
    ↔ (IsExposed server g users x.file x.cause x.epoch × WasNamed g x.file x.name)

-- in the order of their numbers, and each file at most once
abbrev pub FindingsAreInOrder : Type 0
FindingsAreInOrder =
    (server : Bool) (notes : List Note) (m n : ℕ) (one other : Finding)
    → m < n → slice_get (findings_from server 0 notes) m ≡ Some one
    → slice_get (findings_from server 0 notes) n ≡ Some other
    → one.file < other.file
