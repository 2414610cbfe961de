-- What an update does to files, as the updates of the layers say it.
use Rattle.std.proofs.Common.{◌≡◌, ◌<◌, ◌≤◌, ℕ, zero, suc, Bool, true, false, List, [], ◌∷◌, ◌++◌, length, refl, ◌∙◌, ap, arith}
use Rattle.std.specs.List.{filter}
use Rattle.std.specs.Prelude.{◌*◌, ◌+◌, ◌==◌, cond, ◌&&◌, not, Option, None, option_map, is_some, slice_set}
use Rattle.ov_history.specs.Briefs.{Brief, BriefCreate, BriefEnrol, BriefGrant, BriefRemove, BriefReplace, BriefRevoke, outer}
use Rattle.ov_history.specs.Catalogue.{Catalogue, catalogue_after, matrix_shown, outline}
use Rattle.ov_history.specs.Layers.{Layers}
use Rattle.ov_history.specs.Places.{change_at, living_at}
use Rattle.ov_history.specs.Refusals.{tests_of}
use Rattle.ov_history.proofs.SoundTests.{file_is, is_below}
use Rattle.ov_history.proofs.SoundTests.{NoneApplies, none_applies}
use Rattle.ov_state.specs.Plans.{IsTaken}
use Rattle.ov_state.specs.declared.state.TheConstants.{WIDTH}
use Rattle.ov_thinning.specs.Notes.{Last as PlainLast, Thinning, taken_next, ends_pair, is_paired, kept_after, noted, notes_after, place_in_note, place_noted, unless_noted}
use Rattle.ov_thinning.specs.Thin.{left_out, unless}
use Rattle.ov_tidy.specs.Thins.{CanLook, kept_by, marked, naming_of, note_left, notes_by, pair_by, pair_of, plain_last, plain_notes, some_if}
use Rattle.ov_tidy.specs.declared.note.Last.{Last}
use Rattle.ov_tidy.specs.declared.marks.Mark.{Mark}
use Rattle.ov_tidy.specs.declared.naming.Naming.{Naming}

-- one more file, without a note
pub plain_more : (notes : List (Option Last)) → plain_notes (notes ++ None ∷ []) ≡ plain_notes notes ++ None ∷ []
plain_more [] = refl
plain_more (n ∷ notes) = ap (λ (xs : List (Option PlainLast)). option_map plain_last n ∷ xs) (plain_more notes)

-- a note that is written over
pub plain_set : (notes : List (Option Last)) (file : ℕ) (n : Option Last) → file < length notes
    → plain_notes (slice_set notes file n) ≡ change_at (λ _. option_map plain_last n) file (plain_notes notes)
plain_set [] file n low = absurd (omega (arith, low))
plain_set (x ∷ notes) zero n low = refl
plain_set (x ∷ notes) (suc file) n low =
    ap (λ (xs : List (Option PlainLast)). option_map plain_last x ∷ xs) (plain_set notes file n (omega (arith, low)))

-- of a number past the last nothing changes
pub plain_past : (notes : List (Option Last)) (file : ℕ) (n : Option PlainLast) → length notes ≤ file
    → plain_notes notes ≡ change_at (λ _. n) file (plain_notes notes)
plain_past [] file n past = refl
plain_past (x ∷ notes) zero n past = absurd (omega (arith, past))
plain_past (x ∷ notes) (suc file) n past =
    ap (λ (xs : List (Option PlainLast)). option_map plain_last x ∷ xs) (plain_past notes file n (omega (arith, past)))

-- what may be looked at of an update that is taken
pub can_look : (c : Catalogue) (b : Brief) → length c.users ≤ 64 * WIDTH → IsTaken c b → CanLook c (naming_of b)
can_look c b few taken =
    by_update b (none_applies (tests_of (matrix_shown c) (outline c) c.epoch (outer b)) taken.0) where
      by_update : (b : Brief) → NoneApplies (tests_of (matrix_shown c) (outline c) c.epoch (outer b))
          → CanLook c (naming_of b)
      by_update (BriefEnrol user) none = tt
      by_update (BriefCreate file list tokens tag size) none = tt
      by_update (BriefGrant user file token) (no_user, (missing, rest)) =
          (file_is file c missing, omega (arith, is_below user (length c.users) no_user, few))
      by_update (BriefRevoke user file) (no_user, (missing, rest)) =
          (file_is file c missing, omega (arith, is_below user (length c.users) no_user, few))
      by_update (BriefRemove file) none = tt
      by_update (BriefReplace file tokens tag size) none = tt

module _ (y : Layers) (n : Option PlainLast) (place : ℕ) (user file : ℕ) where
  left_granted : (p : Bool) → note_left (pair_by y n p true user file) (noted p y place true user file)
      ≡ unless_noted (not p && ends_pair y n true user file) (noted p y place true user file)
  left_granted true = refl
  left_granted false = by_end (ends_pair y n true user file) where
    by_end : (e : Bool) → note_left (some_if e (place_in_note n)) (noted false y place true user file)
        ≡ unless_noted e (noted false y place true user file)
    by_end true = refl
    by_end false = refl

  left_revoked : note_left (pair_by y n false false user file) (noted false y place false user file)
      ≡ unless_noted (ends_pair y n false user file) (noted false y place false user file)
  left_revoked = by_end (ends_pair y n false user file) where
    by_end : (e : Bool) → note_left (some_if e (place_in_note n)) (noted false y place false user file)
        ≡ unless_noted e (noted false y place false user file)
    by_end true = refl
    by_end false = refl

  kept_granted : (kept : List ℕ) (p : Bool) → kept_by (pair_by y n p true user file) kept place
      ≡ kept_after (not p && ends_pair y n true user file) kept (place_in_note n) place
  kept_granted kept true = refl
  kept_granted kept false = by_end (ends_pair y n true user file) where
    by_end : (e : Bool) → kept_by (some_if e (place_in_note n)) kept place ≡ kept_after e kept (place_in_note n) place
    by_end true = refl
    by_end false = refl

  kept_revoked : (kept : List ℕ) → kept_by (pair_by y n false false user file) kept place
      ≡ kept_after (ends_pair y n false user file) kept (place_in_note n) place
  kept_revoked kept = by_end (ends_pair y n false user file) where
    by_end : (e : Bool) → kept_by (some_if e (place_in_note n)) kept place ≡ kept_after e kept (place_in_note n) place
    by_end true = refl
    by_end false = refl

module _ (c : Catalogue) (notes : List (Option PlainLast)) (place : ℕ) where
  -- the notes are those that the layers say
  pub notes_are : (b : Brief) → IsTaken c b
      → notes_by (outline c) notes place (naming_of b) ≡ notes_after (outline c) notes place (outer b)
  notes_are (BriefEnrol user) taken = refl
  notes_are (BriefCreate file list tokens tag size) taken = refl
  notes_are (BriefGrant user file token) taken =
      ap (λ (x : Option PlainLast). change_at (λ _. x) file notes)
      (left_granted (outline c) (living_at notes file) place user file (is_some token)
      ∙ ap (λ (p : Bool). unless_noted (not p && ends_pair (outline c) (living_at notes file) true user file)
      (noted p (outline c) place true user file)) taken.1)
  notes_are (BriefRevoke user file) taken =
      ap (λ (x : Option PlainLast). change_at (λ _. x) file notes)
      (left_revoked (outline c) (living_at notes file) place user file)
  notes_are (BriefRemove file) taken = refl
  notes_are (BriefReplace file tokens tag size) taken = refl

  -- and so are the places
  pub kept_are : (b : Brief) (kept : List ℕ) → IsTaken c b
      → kept_by (pair_of (outline c) notes (naming_of b)) kept place
      ≡ kept_after (is_paired (outline c) notes (outer b)) kept (place_noted notes (outer b)) place
  kept_are (BriefEnrol user) kept taken = refl
  kept_are (BriefCreate file list tokens tag size) kept taken = refl
  kept_are (BriefGrant user file token) kept taken =
      kept_granted (outline c) (living_at notes file) place user file kept (is_some token)
      ∙ ap (λ (p : Bool). kept_after (not p && ends_pair (outline c) (living_at notes file) true user file)
      kept (place_in_note (living_at notes file)) place) taken.1
  kept_are (BriefRevoke user file) kept taken =
      kept_revoked (outline c) (living_at notes file) place user file kept
  kept_are (BriefRemove file) kept taken = refl
  kept_are (BriefReplace file tokens tag size) kept taken = refl

-- all of it together
pub next_is : (master : List ℕ) (old : Thinning) (b : Brief) (c1 c2 : Catalogue) (taken1 : ℕ) (kept1 kept2 : List ℕ)
    (notes1 notes2 : List (Option PlainLast)) (naming : Naming) (pair : Option ℕ) (mark : Mark)
    → IsTaken old.catalogue b → c1 ≡ old.catalogue → taken1 ≡ old.taken → kept1 ≡ old.kept → notes1 ≡ old.notes
    → naming ≡ naming_of b
    → pair ≡ pair_of (outline c1) notes1 naming
    → marked mark notes1 ≡ notes_by (outline c1) notes1 taken1 naming
    → c2 ≡ catalogue_after master old.catalogue b
    → kept2 ≡ kept_by pair kept1 taken1
    → notes2 ≡ marked mark notes1
    → record { catalogue = c2; taken = taken1 + 1; kept = kept2; notes = notes2 } ≡ taken_next master old b
next_is master old b c1 c2 taken1 kept1 kept2 notes1 notes2 naming pair mark taken is_c is_taken is_kept is_notes is_naming pair_is mark_is after kept_is notes_is =
    let kept_then : kept2 ≡ kept_after (is_paired (outline old.catalogue) old.notes (outer b)) old.kept (place_noted old.notes (outer b)) old.taken =
    kept_is
    ∙ ap (λ (p : Option ℕ). kept_by p kept1 taken1) pair_is
    ∙ (λ j. kept_by (pair_of (outline (is_c j)) (is_notes j) (is_naming j)) (is_kept j) (is_taken j))
    ∙ kept_are old.catalogue old.notes old.taken b old.kept taken in
    let notes_then : notes2 ≡ notes_after (outline old.catalogue) old.notes old.taken (outer b) =
    notes_is ∙ mark_is
    ∙ (λ j. notes_by (outline (is_c j)) (is_notes j) (is_taken j) (is_naming j))
    ∙ notes_are old.catalogue old.notes old.taken b taken in
    λ j. record { catalogue = after j; taken = is_taken j + 1; kept = kept_then j; notes = notes_then j }

-- what is left of places where each that is another one is kept
pub filter_left : (place : ℕ) (ps : List ℕ) → filter (λ (p : ℕ). not (p == place)) ps ≡ left_out place ps
filter_left place [] = refl
filter_left place (p ∷ ps) =
    (λ j. cond (not (p == place)) (p ∷ filter_left place ps j) (filter_left place ps j)) ∙ by_test (p == place) where
      by_test : (e : Bool) → cond (not e) (p ∷ left_out place ps) (left_out place ps) ≡ unless e p (left_out place ps)
      by_test true = refl
      by_test false = refl
