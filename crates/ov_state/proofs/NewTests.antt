-- The tests of an enrolment and of a creation, as a state makes them.
use Rattle.ov_base.specs.StoreLimits.{most_files}
use Rattle.std.proofs.Common.{◌≡◌, ℕ, suc, Bool, true, false, List, [], ◌∷◌, ◌++◌, length, refl, sym, ◌∙◌, ap, subst, arith}
use Rattle.std.specs.Prelude.{◌||◌, nat_le, nat_lt, is_some, IfSome, Option, Some, None}
use Rattle.std.specs.Str.{bytes_eq}
use Rattle.std.proofs.lemmas.Bool.Decides.{nat_tests}
use Rattle.ov_base.specs.Sets.{within, IsBelow}
use Rattle.ov_base.specs.NameLists.{is_among}
use Rattle.ov_base.proofs.SetLaws.{within-Within, Within-within}
use Rattle.ov_base.specs.declared.refusal.Refusal.{Refusal}
use Rattle.ov_history.specs.Lists.{everyone, file_names, is_file, file_number}
use Rattle.ov_history.specs.Places.{here_or_after, living_at, place_of, IsNumber}
use Rattle.ov_history.specs.Refusals.{Test, first_of_tests}
use Rattle.ov_history.specs.Catalogue.{Catalogue, outline, matrix_shown}
use Rattle.ov_history.proofs.PlaceLaws.{everyone-Has, everyone-below}
use Rattle.ov_history.proofs.SoundTests.{files_shown-length}
use Rattle.ov_state.specs.Entries.{filed_names as names_of}
use Rattle.ov_state.proofs.QueryLaws.{file_number_by, file_there, no_file_there}
use Rattle.ov_base.proofs.Tests.{lt_is_true, lt_is_false}

-- ---- names

one_less : (b : Bool) (place n : ℕ) → nat_lt place n ≡ b → nat_lt (suc place) (suc n) ≡ b
one_less true place n e = grind (arith, nat_tests)
one_less false place n e = grind (arith, nat_tests)

has_step : (b c : Bool) (place n : ℕ) → nat_lt place n ≡ c → nat_lt (here_or_after b place) (suc n) ≡ (b || c)
has_step true c place n e = grind (arith, nat_tests)
has_step false c place n e = one_less c place n e

-- whether a name has a place among these
pub has_place : (name : List ℕ) (names : List (List ℕ)) → nat_lt (place_of name names) (length names) ≡ is_among name names
has_place name [] = refl
has_place name (first ∷ names) =
    has_step (bytes_eq name first) (is_among name names) (place_of name names) (length names) (has_place name names)

-- ---- lists

is_within : (set users : ℕ) → IsBelow users set → within set (everyone users) ≡ true
is_within set users below = Within-within set (everyone users) (λ user one. everyone-Has users user (below user one))

pub not_within : (set users : ℕ) → (IsBelow users set → ⊥) → within set (everyone users) ≡ false
not_within set users past = by_cases (within set (everyone users)) refl where
  by_cases : (b : Bool) → within set (everyone users) ≡ b → within set (everyone users) ≡ false
  by_cases false is = is
  by_cases true is = absurd (past (λ user one. everyone-below users user (within-Within set (everyone users) is user one)))

-- whether the users of a set are all among so many, by whether they are below that number
pub are_users : (b : Bool) (set users : ℕ) → (b ≡ true → IsBelow users set) → (b ≡ false → IsBelow users set → ⊥)
    → b ≡ within set (everyone users)
are_users true set users below past = sym (is_within set users (below refl))
are_users false set users below past = sym (not_within set users (past refl))

-- ---- the first that applies

pub first_here : (why : Refusal) (b : Bool) (tests : List Test) → b ≡ true → first_of_tests ((why, b) ∷ tests) ≡ Some why
first_here why b tests e = ap (λ c. first_of_tests ((why, c) ∷ tests)) e

pub first_later : (why : Refusal) (b : Bool) (tests : List Test) → b ≡ false
    → first_of_tests ((why, b) ∷ tests) ≡ first_of_tests tests
first_later why b tests e = ap (λ c. first_of_tests ((why, c) ∷ tests)) e

-- what applies among these applies among more
pub first_among : (tests more : List Test) (why : Refusal) → first_of_tests tests ≡ Some why
    → first_of_tests (tests ++ more) ≡ Some why
first_among [] more why e = absurd (cc)
first_among ((first, true) ∷ tests) more why e = e
first_among ((first, false) ∷ tests) more why e = first_among tests more why e

pub first_after : (tests more : List Test) → first_of_tests tests ≡ None → first_of_tests (tests ++ more) ≡ first_of_tests more
first_after [] more e = refl
first_after ((first, true) ∷ tests) more e = absurd (cc)
first_after ((first, false) ∷ tests) more e = first_after tests more e

-- ---- files by name

-- whether a file has this name
pub file_test : (s : Catalogue) (name : List ℕ) (r : Option ℕ) → IsNumber (names_of s.files) name r
    → IfSome r (λ file. is_some (living_at s.files file) ≡ true) → is_some r ≡ is_file (matrix_shown s) (file_number (matrix_shown s) name)
file_test s name r number there = by_number r (file_number_by s name r number) there where
  by_number : (r : Option ℕ) → IsNumber (file_names (matrix_shown s).files) name r
      → IfSome r (λ file. is_some (living_at s.files file) ≡ true) → is_some r ≡ is_file (matrix_shown s) (file_number (matrix_shown s) name)
  by_number None none there = sym (no_file_there s name none)
  by_number (Some file) (is, low) there = sym (subst (λ n. is_file (matrix_shown s) n ≡ true) is (file_there s file there))

pub files_test : (s : Catalogue) → nat_le (most_files s.limits) (length (matrix_shown s).files) ≡ nat_le (most_files s.limits) (length s.files)
files_test s = ap (λ n. nat_le (most_files s.limits) n) (files_shown-length (outline s) s.files)

-- a file is looked up by its name
pub number_there : (name : List ℕ) (names : List (List ℕ)) (r : Option ℕ) → IsNumber names name r → is_some r ≡ is_among name names
number_there name names None is = sym (lt_is_false (place_of name names) (length names) (omega (arith, is))) ∙ has_place name names
number_there name names (Some number) (is, low) =
    sym (lt_is_true (place_of name names) (length names) (omega (arith, is, low))) ∙ has_place name names
