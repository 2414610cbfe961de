-- Records with first blocks are spelled apart, and are read again.
use Rattle.std.proofs.Common.{◌≡◌, ℕ, ◌+◌, ◌≤◌, Bool, true, false, List, [], ◌∷◌, ◌++◌}
use Rattle.std.proofs.Common.{length, Ok, refl, sym, ap, subst, ◌∙◌, arith, take}
use Rattle.std.proofs.lemmas.Bool.{le-ltb}
use Rattle.std.specs.List.{AllByRecursion, flat_map}
use Rattle.std.specs.Prelude.{Option, Some}
use Rattle.ov_fields.specs.Spelling.{u32}
use Rattle.ov_fields.specs.Reading.{placed}
use Rattle.ov_fields.proofs.FieldLaws.{number_reads, wide32}
use Rattle.ov_fields.proofs.WholeLaws.{all_again, no_front}
use Rattle.ov_record.specs.Forms.{Form, HasRoom}
use Rattle.ov_record.specs.Forms.{second_form}
use Rattle.ov_record.specs.Briefs.{Brief as SpelledBrief}
use Rattle.ov_record.specs.Reading.{brief_of, stored_of}
use Rattle.ov_record.specs.Stored.{HasBriefForm, IsNumber, brief_spelling}
use Rattle.ov_record.proofs.BriefLaws.{brief_again_of, brief_reads, stored_reads}
use Rattle.ov_record.proofs.UpdateLaws.{first_has_room, second_has_room}
use Rattle.ov_history.specs.Briefs.{numbered_brief, spelled_brief}
use Rattle.ov_history.specs.History.{Matrix, no_one}
use Rattle.ov_history.specs.Lists.{file_names}
use Rattle.ov_history.specs.Placed.{PlacedUpdate}
use Rattle.ov_journal.specs.Book.{contents_of, is_first, records_in}
use Rattle.ov_journal.specs.Runs.{Run, run_after}
use Rattle.ov_journal.specs.Steps.{before_step, comes_before, without_step}
use Rattle.ov_journal.proofs.Steps.{few_before}
use Rattle.ov_images.specs.Records.{AllHaveForm, AllHaveFormFrom, HasRecordForm, StopsInRecord}
use Rattle.ov_images.specs.Records.{StopsInUpdate, bodies_from, bodies_of, form_behind, form_if}
use Rattle.ov_images.specs.Records.{matrix_after, matrix_with, names_after, record_spelling, stored}

-- ---- the forms of records

room_if : (first : Bool) → HasRoom (form_if first)
room_if true = first_has_room
room_if false = second_has_room

-- the form of each record has room
pub room_behind : (step : Option ℕ) (count : ℕ) → HasRoom (form_behind step count)
room_behind step count = room_if (comes_before step count)

-- behind as many records as come before a step record the form is the second
pub second_behind : (old count : ℕ) → old ≤ count → form_behind (Some old) count ≡ second_form
second_behind old count le = ap form_if (le-ltb count old le)

second_in : (first : Bool) (run : Run)
    → form_behind (records_in first run).step (length (records_in first run).bodies) ≡ second_form
second_in false run = refl
second_in true run =
    second_behind (before_step run.bodies) (length (without_step run.bodies))
    (few_before run.bodies)

-- the next record of a Book is in the second form, whichever its format is
pub next_is_second : (book : List ℕ)
    → form_behind (contents_of book).records.step (length (contents_of book).records.bodies)
    ≡ second_form
next_is_second book = second_in (is_first (take 78 book)) (run_after 78 book)

-- ---- an update at the front

-- the first blocks, each in four bytes
abbrev pub firsts_spelling : List ℕ → List ℕ
firsts_spelling firsts = flat_map u32 firsts

firsts_apart : (xs ys : List ℕ) → AllByRecursion IsNumber xs → AllByRecursion IsNumber ys
    → firsts_spelling xs ≡ firsts_spelling ys → xs ≡ ys
firsts_apart [] [] fx fy same = refl
firsts_apart [] (y ∷ ys) fx fy same = absurd (cc same)
firsts_apart (x ∷ xs) [] fx fy same = absurd (cc same)
firsts_apart (x ∷ xs) (y ∷ ys) fx fy same =
    let both = no_front (number_reads wide32) x y (firsts_spelling xs) (firsts_spelling ys) fx.0
    fy.0 same in
    let rest = firsts_apart xs ys fx.1 fy.1 both.1 in
    λ j. both.0 j ∷ rest j

module _ (form : Form) (room : HasRoom form) where
  -- no update's spelling is the front of another's
  pub fronts_apart : (u v : SpelledBrief) (x y : List ℕ)
      → HasBriefForm form u → HasBriefForm form v
      → brief_spelling form u ++ x ≡ brief_spelling form v ++ y → (u ≡ v) × (x ≡ y)
  fronts_apart u v x y fu fv same = no_front (brief_reads form room) u v x y fu fv same

  -- reading an update stops nowhere where one is at the front
  pub never_stops : (u : SpelledBrief) (body rest : List ℕ) (at_byte : ℕ)
      → HasBriefForm form u → body ≡ brief_spelling form u ++ rest → StopsInUpdate form body at_byte → ⊥
  never_stops u body rest at_byte has_form bytes stops =
      absurd (cc (sym stops ∙ ap (brief_of form) bytes
      ∙ brief_again_of form room u rest has_form))

  -- ---- records

  module _ (names : List (List ℕ)) where
    -- updates with one record are one
    pub records_apart : (u v : PlacedUpdate)
        → HasRecordForm form names u → HasRecordForm form names v
        → record_spelling form names u ≡ record_spelling form names v → u ≡ v
    records_apart u v fu fv same =
        let both = fronts_apart (spelled_brief names u.update) (spelled_brief names v.update)
        (firsts_spelling u.firsts) (firsts_spelling v.firsts) fu.spelled.0 fv.spelled.0 same in
        let update : u.update ≡ v.update =
        sym fu.told ∙ ap (λ (b : SpelledBrief). numbered_brief names b) both.0 ∙ fv.told in
        let firsts = firsts_apart u.firsts v.firsts fu.spelled.1.0 fv.spelled.1.0 both.1 in
        λ j. record { update = update j; firsts = firsts j }

    -- reading a record with its first blocks stops nowhere
    pub record_never_stops : (u : PlacedUpdate) (body : List ℕ) (count at_byte : ℕ)
        → HasRecordForm form names u → body ≡ record_spelling form names u
        → length u.firsts ≡ count → StopsInRecord form count body at_byte → ⊥
    record_never_stops u body count at_byte has_form bytes is stops =
        let read : stored_of form count (record_spelling form names u) ≡ Ok (stored names u) =
        ap (placed (length (record_spelling form names u)))
        (all_again (stored_reads form room count) (stored names u)
        (has_form.spelled.0, (has_form.spelled.1.0, is))) in
        absurd (cc (sym stops ∙ ap (stored_of form count) bytes ∙ read))

-- ---- bodies

module _ (step : Option ℕ) where
  once_from : (count : ℕ) (m : Matrix) (us vs : List PlacedUpdate)
      → AllHaveFormFrom step count m us → AllHaveFormFrom step count m vs
      → bodies_from step count m us ≡ bodies_from step count m vs → us ≡ vs
  once_from count m [] [] fu fv same = refl
  once_from count m [] (v ∷ vs) fu fv same = absurd (cc same)
  once_from count m (u ∷ us) [] fu fv same = absurd (cc same)
  once_from count m (u ∷ us) (v ∷ vs) fu fv same =
      let form : Form = form_behind step count in
      let names : List (List ℕ) = file_names m.files in
      let next : ℕ = count + 1 in
      let one : record_spelling form names u ≡ record_spelling form names v = cc same in
      let rest : bodies_from step next (matrix_with m u) us
      ≡ bodies_from step next (matrix_with m v) vs = cc same in
      let first = records_apart form (room_behind step count) names u v fu.0 fv.0 one in
      let back : matrix_with m v ≡ matrix_with m u = ap (matrix_with m) (sym first) in
      let others = once_from next (matrix_with m u) us vs fu.1
      (subst (λ (n : Matrix). AllHaveFormFrom step next n vs) back fv.1)
      (rest ∙ ap (λ (n : Matrix). bodies_from step next n vs) back) in
      λ j. first j ∷ others j

  pub bodies_once : (us vs : List PlacedUpdate) → AllHaveForm step us → AllHaveForm step vs
      → bodies_of step us ≡ bodies_of step vs → us ≡ vs
  bodies_once us vs fu fv same = once_from 0 no_one us vs fu fv same

  pub length-bodies_from : (count : ℕ) (m : Matrix) (updates : List PlacedUpdate)
      → length (bodies_from step count m updates) ≡ length updates
  length-bodies_from count m [] = refl
  length-bodies_from count m (u ∷ updates) =
      omega (arith, length-bodies_from (count + 1) (matrix_with m u) updates)

  -- as many bodies as updates
  pub length-bodies_of : (updates : List PlacedUpdate)
      → length (bodies_of step updates) ≡ length updates
  length-bodies_of updates = length-bodies_from 0 no_one updates

  -- the body of the last of these updates, behind so many others
  abbrev last_body : ℕ → Matrix → List PlacedUpdate → PlacedUpdate → List ℕ
  last_body behind m updates u =
      record_spelling (form_behind step behind) (file_names (matrix_after m updates).files) u

  push_from : (count behind : ℕ) (m : Matrix) (updates : List PlacedUpdate) (u : PlacedUpdate)
      → count + length updates ≡ behind
      → bodies_from step count m (updates ++ u ∷ [])
      ≡ bodies_from step count m updates ++ last_body behind m updates u ∷ []
  push_from count behind m [] u is =
      let here : count ≡ behind = omega (arith, is) in
      ap (λ (n : ℕ). last_body n m [] u ∷ []) here
  push_from count behind m (v ∷ updates) u is =
      ap (λ (l : List (List ℕ)).
      record_spelling (form_behind step count) (file_names m.files) v ∷ l)
      (push_from (count + 1) behind (matrix_with m v) updates u (omega (arith, is)))

  pub bodies-push : (updates : List PlacedUpdate) (u : PlacedUpdate)
      → bodies_of step (updates ++ u ∷ [])
      ≡ bodies_of step updates
      ++ record_spelling (form_behind step (length updates)) (names_after updates) u ∷ []
  bodies-push updates u = push_from 0 (length updates) no_one updates u (omega arith)

  form_from : (count behind : ℕ) (m : Matrix) (updates : List PlacedUpdate) (u : PlacedUpdate)
      → count + length updates ≡ behind → AllHaveFormFrom step count m updates
      → HasRecordForm (form_behind step behind) (file_names (matrix_after m updates).files) u
      → AllHaveFormFrom step count m (updates ++ u ∷ [])
  form_from count behind m [] u is all form =
      let here : behind ≡ count = omega (arith, is) in
      (subst (λ (n : ℕ). HasRecordForm (form_behind step n) (file_names m.files) u) here form, tt)
  form_from count behind m (v ∷ updates) u is all form = (
    all.0,
    form_from (count + 1) behind (matrix_with m v) updates u (omega (arith, is)) all.1 form,
  )

  pub form-push : (updates : List PlacedUpdate) (u : PlacedUpdate) → AllHaveForm step updates
      → HasRecordForm (form_behind step (length updates)) (names_after updates) u
      → AllHaveForm step (updates ++ u ∷ [])
  form-push updates u all form =
      form_from 0 (length updates) no_one updates u (omega arith) all form
