-- A look at each file makes the next notes.
use Rattle.std.proofs.Common.{◌≡◌, ◌<◌, ◌≤◌, ◌+◌, ℕ, zero, suc, Bool, List, [], ◌∷◌, ◌++◌, length}
use Rattle.std.proofs.Common.{refl, sym, ◌∙◌, ap, inl, inr, arith, length-append}
use Rattle.std.specs.Prelude.{Option, Some, None, false, is_some, option_map, slice_get}
use Rattle.std.specs.Prelude.{slice_index_or, slice_set, unwrap_or}
use Rattle.std.proofs.lemmas.Bool.{cases_lt, false≢true}
use Rattle.std.proofs.lemmas.Option.{slice_get_cases}
use Rattle.ov_history.specs.Catalogue.{Catalogue, Filed, file_shown, filed_at, matrix_shown, no_filed}
use Rattle.ov_history.specs.Catalogue.{outline}
use Rattle.ov_history.specs.History.{File, file_at, no_file}
use Rattle.ov_history.specs.Layers.{holders}
use Rattle.ov_history.specs.Places.{living_at}
use Rattle.ov_history.specs.Sound.{IsSound}
use Rattle.ov_history.proofs.ChangeLaws.{below_some}
use Rattle.ov_history.proofs.SoundTests.{shown_there}
use Rattle.ov_exposure.specs.Auditing.{AreMembers, AreNext, MayFollow, Note, any_in, is_bare, looked}
use Rattle.ov_exposure.specs.Auditing.{new_note, next_note, noted}
use Rattle.ov_exposure.proofs.Meeting.{meets_is_any}
use Rattle.ov_audit.specs.Looks.{looked_all, looked_behind, looked_by, note_of, with_new, with_note}
use Rattle.ov_audit.specs.Marks.{AreMarksOf, covered_marks, held_marks, listed_by, mark_at}
use Rattle.ov_audit.specs.Notes.{plain_note, plain_notes}
use Rattle.ov_audit.specs.declared.note.Note.{Note as Written}
use Rattle.ov_audit.proofs.MarkLaws.{held_is, listed_is}

-- ---- one look

pub looked_is : (users : List ℕ) (named : ℕ) (c : Catalogue) → IsSound c → AreMembers users named
    → (file : ℕ) (note : Note)
    → looked_by (held_marks named c) (covered_marks named c) c.epoch (living_at c.files file) note
    ≡ looked users c file note
looked_is users named c sound are file note =
    let held : List Bool = held_marks named c in
    let list : ℕ = (file_at (matrix_shown c) file).list in
    let bare : Option ℕ = noted (is_bare (living_at c.files file)) c.epoch note.bare in
    let listed : listed_by held (covered_marks named c) (living_at c.files file)
    ≡ any_in users list =
    listed_is named c sound file ∙ sym (meets_is_any users named list are) in
    let holds : mark_at held note.node ≡ any_in users (holders (outline c) note.node) =
    held_is named c sound note.node
    ∙ sym (meets_is_any users named (holders (outline c) note.node) are) in
    ap
    (λ b. record note {
      listed = noted b c.epoch note.listed;
      bare = bare;
      held = mark_at held note.node;
    }) listed
    ∙ ap
    (λ b. record note {
      listed = noted (any_in users list) c.epoch note.listed;
      bare = bare;
      held = b;
    }) holds

-- ---- a look at all

pub length-looked_all : (held covered : List Bool) (epoch : ℕ) (files : List (Option Filed)) (file : ℕ)
    (notes : List Note)
    → length (looked_all held covered epoch files file notes) ≡ length notes
length-looked_all held covered epoch files file [] = refl
length-looked_all held covered epoch files file (note ∷ notes) =
    ap suc (length-looked_all held covered epoch files (file + 1) notes)

get-looked_all : (held covered : List Bool) (epoch : ℕ) (files : List (Option Filed)) (file : ℕ)
    (notes : List Note) (k : ℕ)
    → slice_get (looked_all held covered epoch files file notes) k
    ≡ option_map (looked_by held covered epoch (living_at files (file + k))) (slice_get notes k)
get-looked_all held covered epoch files file [] k = refl
get-looked_all held covered epoch files file (note ∷ notes) zero =
    let same : file ≡ file + 0 = omega arith in
    ap (λ n. Some (looked_by held covered epoch (living_at files n) note)) same
get-looked_all held covered epoch files file (note ∷ notes) (suc k) =
    let same : file + 1 + k ≡ file + suc k = omega arith in
    get-looked_all held covered epoch files (file + 1) notes k
    ∙ ap (λ n. option_map (looked_by held covered epoch (living_at files n)) (slice_get notes k)) same

-- ---- the note of a new file

get-front : (xs ys : List Note) (k : ℕ) (x : Note) → slice_get xs k ≡ Some x
    → slice_get (xs ++ ys) k ≡ Some x
get-front [] ys k x is = absurd (cc)
get-front (first ∷ xs) ys zero x is = is
get-front (first ∷ xs) ys (suc k) x is = get-front xs ys k x is

get-last : (xs : List Note) (y : Note) (k : ℕ) → k ≡ length xs
    → slice_get (xs ++ y ∷ []) k ≡ Some y
get-last [] y zero is = refl
get-last [] y (suc k) is = absurd (omega (arith, is))
get-last (x ∷ xs) y zero is = absurd (omega (arith, is))
get-last (x ∷ xs) y (suc k) is = get-last xs y k (omega (arith, is))

-- a new file has a note, and each file that is noted or new has one
length-with_note : (c : Catalogue) (notes : List Note) → MayFollow notes c → (o : Option Filed)
    → living_at c.files (length notes) ≡ o
    → length (with_note c.epoch notes o) ≡ length c.files
length-with_note c notes may None is = elim (cases_lt (length notes) (length c.files)) [
  | inl more ↦
      absurd (false≢true (ap (λ (o : Option Filed). is_some o) (sym is) ∙ may.there more))
  | inr end ↦ omega (arith, end, may.noted)
]
length-with_note c notes may (Some f) is =
    let low : length notes < length c.files =
    below_some c.files (length notes) (ap (λ (o : Option Filed). is_some o) is) in
    omega (arith, low, may.few, length-append notes (note_of c.epoch f ∷ []))

pub length-with_new : (c : Catalogue) (notes : List Note) → MayFollow notes c
    → length (with_new c notes) ≡ length c.files
length-with_new c notes may =
    length-with_note c notes may (living_at c.files (length notes)) refl

new_note_is : (c : Catalogue) (file : ℕ) (f : Filed) → living_at c.files file ≡ Some f
    → note_of c.epoch f ≡ new_note c file
new_note_is c file f is =
    let name : f.name ≡ (file_at (matrix_shown c) file).name =
    sym
    (ap (λ (o : Option File). (unwrap_or o no_file).name) (shown_there (outline c) c.files file)
    ∙ ap (λ (o : Option Filed). (unwrap_or (option_map (file_shown (outline c)) o) no_file).name) is) in
    let node : f.node ≡ (filed_at c file).node =
    ap (λ (o : Option Filed). (unwrap_or o no_filed).node) (sym is) in
    ap
    (λ (these : List ℕ). record {
      name = these;
      node = f.node;
      made = c.epoch;
      listed = None;
      bare = None;
      held = false;
    }) name
    ∙ ap
    (λ n. record {
      name = (file_at (matrix_shown c) file).name;
      node = n;
      made = c.epoch;
      listed = None;
      bare = None;
      held = false;
    }) node

-- what an audit looks at of a file: its note, or that of a new file
abbrev noted_or_new : Catalogue → ℕ → Option Note → Note
noted_or_new c file None = new_note c file
noted_or_new c file (Some note) = note

get-with_note : (c : Catalogue) (notes : List Note) → MayFollow notes c → (o : Option Filed)
    → living_at c.files (length notes) ≡ o → (file : ℕ) → file < length c.files
    → slice_get (with_note c.epoch notes o) file
    ≡ Some (noted_or_new c file (slice_get notes file))
get-with_note c notes may None is file low = elim (slice_get_cases notes file).1 [
  | inl some ↦
      some.2
      ∙ ap (λ (o : Option Note). Some (noted_or_new c file o)) (sym some.2)
  | inr none ↦
      let end : length notes ≡ length c.files = length-with_note c notes may None is in
      absurd (omega (arith, none.0, end, low))
]
get-with_note c notes may (Some f) is file low = elim (slice_get_cases notes file).1 [
  | inl some ↦
      get-front notes (note_of c.epoch f ∷ []) file some.0 some.2
      ∙ ap (λ (o : Option Note). Some (noted_or_new c file o)) (sym some.2)
  | inr none ↦
      let end : file ≡ length notes = omega (arith, none.0, low, may.few) in
      get-last notes (note_of c.epoch f) file end
      ∙ ap (λ (n : Note). Some n)
      (new_note_is c file f (ap (λ n. living_at c.files n) end ∙ is))
      ∙ ap (λ (o : Option Note). Some (noted_or_new c file o)) (sym none.1)
]

-- ---- the next notes

next_is : (users : List ℕ) (c : Catalogue) (file : ℕ) (o : Option Note)
    → looked users c file (noted_or_new c file o) ≡ next_note users c file o
next_is users c file None = refl
next_is users c file (Some note) = refl

pub are_next : (users : List ℕ) (named : ℕ) (c : Catalogue) (notes : List Note) → IsSound c
    → MayFollow notes c → AreMembers users named
    → AreNext users c notes
    (looked_all (held_marks named c) (covered_marks named c) c.epoch c.files 0 (with_new c notes))
are_next users named c notes sound may are =
    let held : List Bool = held_marks named c in
    let covered : List Bool = covered_marks named c in (
      length-looked_all held covered c.epoch c.files 0 (with_new c notes)
          ∙ length-with_new c notes may,
      λ file low.
          let note : Note = noted_or_new c file (slice_get notes file) in
          let same : 0 + file ≡ file = omega arith in
          get-looked_all held covered c.epoch c.files 0 (with_new c notes) file
          ∙ ap
          (λ n. option_map (looked_by held covered c.epoch (living_at c.files n))
          (slice_get (with_new c notes) file)) same
          ∙ ap
          (λ (o : Option Note). option_map (looked_by held covered c.epoch (living_at c.files file)) o)
          (get-with_note c notes may (living_at c.files (length notes)) refl file low)
          ∙ ap (λ (n : Note). Some n) (looked_is users named c sound are file note)
          ∙ ap (λ (n : Note). Some n) (next_is users c file (slice_get notes file)),
    )

-- a look by the marks of a state is one by those that were made of it
pub looked_next : (users : ℕ) (c : Catalogue) (held covered : List Bool) (notes pushed seen : List Note)
    → AreMarksOf users c held covered → pushed ≡ with_new c notes
    → seen ≡ looked_all held covered c.epoch c.files 0 pushed
    → seen
    ≡ looked_all (held_marks users c) (covered_marks users c) c.epoch c.files 0 (with_new c notes)
looked_next users c held covered notes pushed seen (held_are, covered_are) put is =
    is
    ∙ ap (λ (these : List Note). looked_all held covered c.epoch c.files 0 these) put
    ∙ ap (λ (marks : List Bool). looked_all marks covered c.epoch c.files 0 (with_new c notes)) held_are
    ∙ ap
    (λ (marks : List Bool). looked_all (held_marks users c) marks c.epoch c.files 0 (with_new c notes))
    covered_are

-- ---- as notes are written down

pub length-plain : (notes : List Written) → length (plain_notes notes) ≡ length notes
length-plain [] = refl
length-plain (note ∷ notes) = ap suc (length-plain notes)

pub plain-push : (notes : List Written) (note : Written)
    → plain_notes (notes ++ note ∷ []) ≡ plain_notes notes ++ plain_note note ∷ []
plain-push [] note = refl
plain-push (first ∷ notes) note =
    ap (λ (rest : List Note). plain_note first ∷ rest) (plain-push notes note)

pub new_pushed : (c : Catalogue) (notes : List Note) (n : ℕ) (f : Filed) → n ≡ length notes
    → living_at c.files n ≡ Some f → with_new c notes ≡ notes ++ note_of c.epoch f ∷ []
new_pushed c notes n f end is =
    ap (λ (o : Option Filed). with_note c.epoch notes o)
    (ap (λ m. living_at c.files m) (sym end) ∙ is)

pub none_pushed : (c : Catalogue) (notes : List Note) (n : ℕ) → n ≡ length notes
    → living_at c.files n ≡ None → with_new c notes ≡ notes
none_pushed c notes n end is =
    ap (λ (o : Option Filed). with_note c.epoch notes o)
    (ap (λ m. living_at c.files m) (sym end) ∙ is)

-- with one note more that was looked at, those behind it are left
pub looked_step : (held covered : List Bool) (epoch : ℕ) (files : List (Option Filed)) (i file : ℕ)
    (notes : List Written) (old new : Written)
    → i < length notes → old ≡ slice_index_or notes i old
    → plain_note new ≡ looked_by held covered epoch (living_at files (file + i)) (plain_note old)
    → looked_behind held covered epoch files (suc i) file (plain_notes (slice_set notes i new))
    ≡ looked_behind held covered epoch files i file (plain_notes notes)
looked_step held covered epoch files i file [] old new low is made = absurd (omega (arith, low))
looked_step held covered epoch files zero file (first ∷ notes) old new low is made =
    let same : file + 0 ≡ file = omega arith in
    ap (λ (n : Note). n ∷ looked_all held covered epoch files (file + 1) (plain_notes notes))
    (made ∙ ap (λ n. looked_by held covered epoch (living_at files n) (plain_note old)) same
    ∙ ap (λ (n : Written). looked_by held covered epoch (living_at files file) (plain_note n)) is)
looked_step held covered epoch files (suc i) file (first ∷ notes) old new low is made =
    let same : file + suc i ≡ file + 1 + i = omega arith in
    ap (λ (rest : List Note). plain_note first ∷ rest)
    (looked_step held covered epoch files i (file + 1) notes old new (omega (arith, low)) is
    (made ∙ ap (λ n. looked_by held covered epoch (living_at files n) (plain_note old)) same))

-- once all were looked at none is left
pub looked_end : (held covered : List Bool) (epoch : ℕ) (files : List (Option Filed)) (first file : ℕ)
    (notes : List Note)
    → length notes ≤ first → looked_behind held covered epoch files first file notes ≡ notes
looked_end held covered epoch files zero file [] past = refl
looked_end held covered epoch files zero file (note ∷ notes) past = absurd (omega (arith, past))
looked_end held covered epoch files (suc first) file [] past = refl
looked_end held covered epoch files (suc first) file (note ∷ notes) past =
    ap (λ (rest : List Note). note ∷ rest)
    (looked_end held covered epoch files first (file + 1) notes (omega (arith, past)))
