-- Inner: no public contract needs this. A look at each file of a state, by marks on its nodes.
use Rattle.std.specs.Prelude.{ℕ, zero, suc, ◌+◌, Bool, false, List, [], ◌∷◌, ◌++◌, length}
use Rattle.std.specs.Prelude.{Option, Some, None}
use Rattle.ov_exposure.specs.Auditing.{Note, is_bare, noted}
use Rattle.ov_history.specs.Catalogue.{Catalogue, Filed}
use Rattle.ov_history.specs.Places.{living_at}
use Rattle.ov_audit.specs.Marks.{listed_by, mark_at}

-- the note of a file that was made at this epoch, before any more is noted
abbrev pub note_of : ℕ → Filed → Note
note_of made f = record {
  name = f.name;
  node = f.node;
  made = made;
  listed = None;
  bare = None;
  held = false;
}

-- the notes, and at their end that of a new file
abbrev pub with_note : ℕ → List Note → Option Filed → List Note
with_note made notes None = notes
with_note made notes (Some f) = notes ++ note_of made f ∷ []

-- the notes, with that of the file that is new in this state
abbrev pub with_new : Catalogue → List Note → List Note
with_new c notes = with_note c.epoch notes (living_at c.files (length notes))

-- the note after a look at the file, by these marks
abbrev pub looked_by : List Bool → List Bool → ℕ → Option Filed → Note → Note
looked_by held covered epoch file note = record note {
  listed = noted (listed_by held covered file) epoch note.listed;
  bare = noted (is_bare file) epoch note.bare;
  held = mark_at held note.node;
}

-- the notes after a look at each of their files, of which the first has this number
abbrev pub looked_all : List Bool → List Bool → ℕ → List (Option Filed) → ℕ → List Note → List Note
looked_all held covered epoch files file [] = []
looked_all held covered epoch files file (note ∷ notes) =
    looked_by held covered epoch (living_at files file) note
    ∷ looked_all held covered epoch files (file + 1) notes

-- the notes after a look at each of their files but the first so many
abbrev pub looked_behind : List Bool → List Bool → ℕ → List (Option Filed) → ℕ → ℕ → List Note
    → List Note
looked_behind held covered epoch files zero file notes =
    looked_all held covered epoch files file notes
looked_behind held covered epoch files (suc first) file [] = []
looked_behind held covered epoch files (suc first) file (note ∷ notes) =
    note ∷ looked_behind held covered epoch files first (file + 1) notes
