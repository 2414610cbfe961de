-- Records of a store whose files' bytes stand in extents: an update without the bytes of its file,
-- and the first blocks of the extents that it fills. In a store of the first format the records
-- before its step record are in the first form; all others are in the second. A record has the name
-- of a file that is replaced, and a history its number.
use Rattle.std.specs.Prelude.{◌≡◌, ℕ, ◌+◌, Bool, true, false, List, [], ◌∷◌, length, Option, Err}
use Rattle.ov_journal.specs.Steps.{comes_before}
use Rattle.ov_record.specs.Briefs.{Brief as SpelledBrief}
use Rattle.ov_record.specs.Forms.{Form, first_form, second_form}
use Rattle.ov_record.specs.Reading.{brief_of, stored_of}
use Rattle.ov_record.specs.Stored.{HasStoredForm, Stored, stored_spelling}
use Rattle.ov_history.specs.Briefs.{Brief, numbered_brief, outer, spelled_brief}
use Rattle.ov_history.specs.History.{Matrix, changed, no_one}
use Rattle.ov_history.specs.Lists.{file_names}
use Rattle.ov_history.specs.Placed.{PlacedUpdate}

-- the update with its first blocks, as a record has both, in a store whose files have these names by
-- number
abbrev pub stored : List (List ℕ) → PlacedUpdate → Stored
stored names u = record { update = spelled_brief names u.update; places = u.firsts }

-- the body of the record of this update in this form, in a store whose files have these names
abbrev pub record_spelling : Form → List (List ℕ) → PlacedUpdate → List ℕ
record_spelling form names u = stored_spelling form (stored names u)

-- The update has a record in this form, in a store whose files have these names. The record tells
-- the update: a file that it replaces is the one that has the name.
pub record HasRecordForm (form : Form) (names : List (List ℕ)) (u : PlacedUpdate) : Type 0 where
  pub spelled : HasStoredForm form (length u.firsts) (stored names u)
  pub told : numbered_brief names (spelled_brief names u.update) ≡ u.update

-- ---- the names of files

-- what the update makes of the matrix
abbrev pub matrix_with : Matrix → PlacedUpdate → Matrix
matrix_with m u = changed m (outer u.update)

-- what these updates make of the matrix, in order
abbrev pub matrix_after : Matrix → List PlacedUpdate → Matrix
matrix_after m [] = m
matrix_after m (u ∷ updates) = matrix_after (matrix_with m u) updates

-- the names of the files after these updates, by number; a gone one has the empty name
abbrev pub names_after : List PlacedUpdate → List (List ℕ)
names_after updates = file_names (matrix_after no_one updates).files

-- the update that is spelled so behind these
abbrev pub numbered_after : List PlacedUpdate → SpelledBrief → Brief
numbered_after updates u = numbered_brief (names_after updates) u

-- ---- the records of a store

-- the first form, where the test says so, and else the second
abbrev pub form_if : Bool → Form
form_if true = first_form
form_if false = second_form

-- The form of the record behind so many others. `step` says how many come before the step record of
-- a store of the first format, and is none in one of the second.
abbrev pub form_behind : Option ℕ → ℕ → Form
form_behind step count = form_if (comes_before step count)

-- each of these updates, behind so many others that made this matrix, has a record
abbrev pub AllHaveFormFrom : Option ℕ → ℕ → Matrix → List PlacedUpdate → Type 0
AllHaveFormFrom step count m [] = Unit {0}
AllHaveFormFrom step count m (u ∷ updates) =
    HasRecordForm (form_behind step count) (file_names m.files) u
    × AllHaveFormFrom step (count + 1) (matrix_with m u) updates

-- each of these updates has a record
abbrev pub AllHaveForm : Option ℕ → List PlacedUpdate → Type 0
AllHaveForm step updates = AllHaveFormFrom step 0 no_one updates

-- the bodies of the records of these updates, behind so many others that made this matrix
abbrev pub bodies_from : Option ℕ → ℕ → Matrix → List PlacedUpdate → List (List ℕ)
bodies_from step count m [] = []
bodies_from step count m (u ∷ updates) =
    record_spelling (form_behind step count) (file_names m.files) u
    ∷ bodies_from step (count + 1) (matrix_with m u) updates

-- the bodies of the records of these updates
abbrev pub bodies_of : Option ℕ → List PlacedUpdate → List (List ℕ)
bodies_of step updates = bodies_from step 0 no_one updates

-- ---- bodies that are no record

-- Reading an update in this form at the front of this body stops at this place, and gives none.
abbrev pub StopsInUpdate : Form → List ℕ → ℕ → Type 0
StopsInUpdate form body at_byte = brief_of form body ≡ Err at_byte

-- Reading an update in this form and this many first blocks, and then the body's end, stops at this
-- place.
abbrev pub StopsInRecord : Form → ℕ → List ℕ → ℕ → Type 0
StopsInRecord form count body at_byte = stored_of form count body ≡ Err at_byte
