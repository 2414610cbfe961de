-- What holds of all spellings, and of the places at which bytes are none.
use Rattle.std.specs.Prelude.{ℕ, ◌≡◌, ◌≤◌, ◌<◌, List, ◌++◌, length, Ok, Err}
use Rattle.ov_base.specs.declared.limits.TheConstants.{MAX_FILES, MAX_RECORD_BYTES}
use Rattle.ov_fields.specs.Fronts.{AreAllBytes, IsWrongPlace}
use Rattle.ov_record.specs.Briefs.{Brief, brief}
use Rattle.ov_record.specs.Forms.{Form, HasRoom, IsWider, first_form, second_form, longest_spelling}
use Rattle.ov_record.specs.Updates.{SealedUpdate}
use Rattle.ov_record.specs.Spelling.{spelling, body_of, HasForm}
use Rattle.ov_record.specs.Stored.{Stored, brief_spelling, longest_stored, stored_spelling, HasBriefForm, HasStoredForm}
use Rattle.ov_record.specs.Reading.{brief_of, stored_of, update_of}

-- Both forms have room, and in both the longest record fits. With the bytes of its file an update
-- of the second form has more than a record may have.
pub record FormsHaveRoom : Type 0 where
  pub first : HasRoom first_form
  pub second : HasRoom second_form
  pub second_is_wider : IsWider second_form first_form
  pub first_records_fit : longest_stored first_form ≤ MAX_RECORD_BYTES
  pub second_records_fit : longest_stored second_form ≤ MAX_RECORD_BYTES
  pub first_updates_fit : longest_spelling first_form ≤ MAX_RECORD_BYTES
  pub second_updates_do_not : MAX_RECORD_BYTES < longest_spelling second_form

-- no update's spelling is the front of another's, and none spells two updates
abbrev pub UpdatesAreSpelledApart : Type 0
UpdatesAreSpelledApart =
    (form : Form) (a b : SealedUpdate) (x y : List ℕ)
    → HasRoom form → HasForm form a → HasForm form b
    → spelling form a ++ x ≡ spelling form b ++ y → (a ≡ b) × (x ≡ y)

-- each update with form is read from its spelling
abbrev pub SpellingsAreRead : Type 0
SpellingsAreRead =
    (form : Form) (u : SealedUpdate)
    → HasRoom form → HasForm form u → update_of form (spelling form u) ≡ Ok u

-- a spelling has a byte at least, and no more than a record may have where the longest one of its
-- form has no more
abbrev pub SpellingsFitRecords : Type 0
SpellingsFitRecords =
    (form : Form) (u : SealedUpdate)
    → HasRoom form → longest_spelling form ≤ MAX_RECORD_BYTES → HasForm form u
    → (1 ≤ length (spelling form u)) × (length (spelling form u) ≤ MAX_RECORD_BYTES)

-- ---- records without the bytes of a file

-- an update is spelled as its brief, and then the bytes of its file
abbrev pub BriefsBeginSpellings : Type 0
BriefsBeginSpellings =
    (form : Form) (u : SealedUpdate) → spelling form u ≡ brief_spelling form (brief u) ++ body_of u

-- no brief's spelling is the front of another's, and none spells two briefs
abbrev pub BriefsAreSpelledApart : Type 0
BriefsAreSpelledApart =
    (form : Form) (a b : Brief) (x y : List ℕ)
    → HasRoom form → HasBriefForm form a → HasBriefForm form b
    → brief_spelling form a ++ x ≡ brief_spelling form b ++ y → (a ≡ b) × (x ≡ y)

-- each brief with form is read from the front of its spelling and whatever follows it
abbrev pub BriefsAreRead : Type 0
BriefsAreRead =
    (form : Form) (b : Brief) (rest : List ℕ)
    → HasRoom form → HasBriefForm form b
    → brief_of form (brief_spelling form b ++ rest) ≡ Ok (b, length (brief_spelling form b))

-- of records with as many first blocks none's spelling is the front of another's, and none spells
-- two
abbrev pub RecordsAreSpelledApart : Type 0
RecordsAreSpelledApart =
    (form : Form) (count : ℕ) (a b : Stored) (x y : List ℕ)
    → HasRoom form → HasStoredForm form count a → HasStoredForm form count b
    → stored_spelling form a ++ x ≡ stored_spelling form b ++ y → (a ≡ b) × (x ≡ y)

-- each record with form is read from its spelling
abbrev pub RecordsAreRead : Type 0
RecordsAreRead =
    (form : Form) (count : ℕ) (s : Stored)
    → HasRoom form → HasStoredForm form count s
    → stored_of form count (stored_spelling form s) ≡ Ok s

-- a record has a byte at least, and no more than it may have where the longest one of its form has
-- no more
abbrev pub RecordsFit : Type 0
RecordsFit =
    (form : Form) (count : ℕ) (s : Stored)
    → HasRoom form → longest_stored form ≤ MAX_RECORD_BYTES → count ≤ MAX_FILES
    → HasStoredForm form count s
    → (1 ≤ length (stored_spelling form s))
    × (length (stored_spelling form s) ≤ MAX_RECORD_BYTES)

-- a brief with form has one in each wider form too
abbrev pub WiderFormsHaveAll : Type 0
WiderFormsHaveAll =
    (wide form : Form) (b : Brief)
    → IsWider wide form → HasBriefForm form b → HasBriefForm wide b

-- ---- wrong places

-- Where bytes spell no update, the place that is named is that of the first field that no spelling
-- goes on with, or their end.
abbrev pub BadUpdatesArePlaced : Type 0
BadUpdatesArePlaced =
    (form : Form) (bytes : List ℕ) (place : ℕ)
    → HasRoom form → AreAllBytes bytes → update_of form bytes ≡ Err place
    → IsWrongPlace (spelling form) (HasForm form) ⊥ bytes place

-- Where no brief's spelling is at the front of bytes, the place that is named is that of the first
-- field that none goes on with, or their end.
abbrev pub BadFrontsArePlaced : Type 0
BadFrontsArePlaced =
    (form : Form) (bytes : List ℕ) (place : ℕ)
    → HasRoom form → AreAllBytes bytes → brief_of form bytes ≡ Err place
    → IsWrongPlace (brief_spelling form) (HasBriefForm form) ⊥ bytes place

-- Where bytes spell no record with so many first blocks, the place that is named is that of the
-- first field that no spelling of one goes on with, or their end.
abbrev pub BadRecordsArePlaced : Type 0
BadRecordsArePlaced =
    (form : Form) (count : ℕ) (bytes : List ℕ) (place : ℕ)
    → HasRoom form → AreAllBytes bytes → stored_of form count bytes ≡ Err place
    → IsWrongPlace (stored_spelling form) (HasStoredForm form count) ⊥ bytes place
