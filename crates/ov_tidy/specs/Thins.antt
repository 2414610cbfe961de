-- A thinning of the code in the words of ov_thinning.
use Rattle.std.specs.Prelude.{◌≡◌, ◌<◌, ◌≤◌, ◌*◌, ◌++◌, Bool, true, false, is_some, ℕ, suc, List, [], ◌∷◌}
use Rattle.std.specs.Prelude.{Option, Some, None, option_map, Result, Ok, Err}
use Rattle.ov_history.specs.Catalogue.{Catalogue, numbered_at}
use Rattle.ov_record.specs.Briefs.{Brief as SpelledBrief}
use Rattle.ov_state.specs.Plans.{IsFaultOf, IsTaken}
use Rattle.ov_state.specs.declared.fault.PrepareFault.{PrepareFault}
use Rattle.ov_state.specs.declared.state.TheConstants.{WIDTH}
use Rattle.ov_history.specs.Briefs.{Brief as PlainBrief, BriefCreate, BriefEnrol, BriefGrant}
use Rattle.ov_history.specs.Briefs.{BriefRemove, BriefReplace, BriefRevoke}
use Rattle.ov_history.specs.Layers.{Layers}
use Rattle.ov_history.specs.Places.{change_at, gone, living_at}
use Rattle.ov_thinning.specs.Notes.{Last as PlainLast, Thinning, ends_pair, noted, place_in_note}
use Rattle.ov_thinning.specs.Notes.{taken_next}
use Rattle.ov_thinning.specs.Thin.{left_out}
use Rattle.ov_tidy.specs.declared.note.Last.{Last}
use Rattle.ov_tidy.specs.declared.marks.Mark.{Mark}
use Rattle.ov_tidy.specs.declared.marks.Mark.TheVariants.{At, More, Moved, Same}
use Rattle.ov_tidy.specs.declared.naming.Naming.{Naming}
use Rattle.ov_tidy.specs.declared.naming.Naming.TheVariants.{Anew, Gone, Joined, Listed, Made}

-- what is noted of a file
abbrev pub plain_last : Last → PlainLast
plain_last last = record {
  place = last.place;
  user = last.user;
  grants = last.grants;
  before = last.before;
  after = last.after;
}

-- what is noted of each file
abbrev pub plain_notes : List (Option Last) → List (Option PlainLast)
plain_notes [] = []
plain_notes (last ∷ notes) = option_map plain_last last ∷ plain_notes notes

-- the places are in order, from this one on, and below this one
abbrev pub AreInOrder : ℕ → ℕ → List ℕ → Type 0
AreInOrder low limit [] = Unit {0}
AreInOrder low limit (place ∷ places) =
    (low ≤ place) × (place < limit) × AreInOrder (suc place) limit places

-- ---- what an update does to files

-- what a brief does to files
abbrev pub naming_of : PlainBrief → Naming
naming_of (BriefEnrol name) = Joined
naming_of (BriefCreate name list tokens tag size) = Made
naming_of (BriefGrant user file token) = Listed file user true (is_some token)
naming_of (BriefRevoke user file) = Listed file user false false
naming_of (BriefRemove file) = Gone file
naming_of (BriefReplace file tokens tag size) = Anew file

-- of a grant or a revocation, the file is there and the user has a place in sets
abbrev pub CanLook : Catalogue → Naming → Type 0
CanLook c Joined = Unit {0}
CanLook c Made = Unit {0}
CanLook c (Listed file user grants publishes) =
    (is_some (living_at c.files file) ≡ true) × (user < 64 * WIDTH)
CanLook c (Gone file) = Unit {0}
CanLook c (Anew file) = Unit {0}

-- the place where the test says so
abbrev pub some_if : Bool → ℕ → Option ℕ
some_if true place = Some place
some_if false place = None

-- the place of the first of the pair that a grant or a revocation ends, of a file with this note
abbrev pub pair_by : Layers → Option PlainLast → Bool → Bool → ℕ → ℕ → Option ℕ
pair_by y last true grants user file = None
pair_by y last false grants user file =
    some_if (ends_pair y last grants user file) (place_in_note last)

-- the place of the first of the pair that is ended
abbrev pub pair_of : Layers → List (Option PlainLast) → Naming → Option ℕ
pair_of y notes Joined = None
pair_of y notes Made = None
pair_of y notes (Listed file user grants publishes) =
    pair_by y (living_at notes file) publishes grants user file
pair_of y notes (Gone file) = None
pair_of y notes (Anew file) = None

-- no note where a pair ends
abbrev pub note_left : Option ℕ → Option PlainLast → Option PlainLast
note_left None last = last
note_left (Some first) last = None

-- the notes then, where this place is that of the update
abbrev pub notes_by : Layers → List (Option PlainLast) → ℕ → Naming → List (Option PlainLast)
notes_by y notes place Joined = notes
notes_by y notes place Made = notes ++ None ∷ []
notes_by y notes place (Listed file user grants publishes) =
    change_at (λ _. note_left (pair_by y (living_at notes file) publishes grants user file)
    (noted publishes y place grants user file)) file notes
notes_by y notes place (Gone file) = change_at gone file notes
notes_by y notes place (Anew file) = change_at gone file notes ++ None ∷ []

-- the notes that are changed so
abbrev pub marked : Mark → List (Option PlainLast) → List (Option PlainLast)
marked Same notes = notes
marked More notes = notes ++ None ∷ []
marked (At file last) notes = change_at (λ _. option_map plain_last last) file notes
marked (Moved file) notes = change_at gone file notes ++ None ∷ []

-- the places without the first of the pair, or with this one
abbrev pub kept_by : Option ℕ → List ℕ → ℕ → List ℕ
kept_by None kept place = kept ++ place ∷ []
kept_by (Some first) kept place = left_out first kept

-- ---- what `take` promises

-- What comes of an update that is taken, or why it isn't: as `prepare` says it of the state.
abbrev pub Takes : {T : Type 0} → List ℕ → Thinning → SpelledBrief → Result T PrepareFault
    → Thinning → Type 0
Takes master old b (Ok done) new =
    IsTaken old.catalogue (numbered_at old.catalogue b)
    × (new ≡ taken_next master old (numbered_at old.catalogue b))
Takes master old b (Err fault) new = IsFaultOf WIDTH old.catalogue b fault × (new ≡ old)
