-- Notes as an audit keeps them, in the words of what has been given away.
use Rattle.std.specs.Prelude.{List, [], ◌∷◌}
use Rattle.ov_audit.specs.declared.note.Note.{Note}
use Rattle.ov_exposure.specs.Auditing.{Note as PlainNote}

-- what is noted of a file
abbrev pub plain_note : Note → PlainNote
plain_note note = record {
  name = note.name;
  node = note.node;
  made = note.made;
  listed = note.listed;
  bare = note.bare;
  held = note.held;
}

-- what is noted of each file
abbrev pub plain_notes : List Note → List PlainNote
plain_notes [] = []
plain_notes (note ∷ notes) = plain_note note ∷ plain_notes notes
