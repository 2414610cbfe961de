-- Updates by number and as they are spelled.
use Rattle.std.proofs.Common.{◌≡◌, ◌<◌, ◌∙◌, ℕ, zero, suc, Bool, true, false, List, [], ◌∷◌, length}
use Rattle.std.proofs.Common.{refl, sym, ap, arith}
use Rattle.std.specs.Prelude.{Option, Some, is_some, slice_index_or}
use Rattle.std.specs.Str.{bytes_eq}
use Rattle.std.proofs.lemmas.Slice.Eq.{bytes_eq-Decides}
use Rattle.ov_base.proofs.Tests.{true_of_not}
use Rattle.ov_record.specs.Updates.{SealedEnrol as SpelledEnrol, SealedCreate as SpelledCreate}
use Rattle.ov_record.specs.Updates.{SealedGrant as SpelledGrant, SealedRevoke as SpelledRevoke}
use Rattle.ov_record.specs.Updates.{SealedRemove as SpelledRemove, SealedReplace as SpelledReplace}
use Rattle.ov_history.specs.Places.{here_or_after, living_at, place_of}
use Rattle.ov_history.specs.History.{File, History, Matrix, Replaced, epoch_of, matrix_of}
use Rattle.ov_history.specs.Lists.{file_names, is_file, name_left}
use Rattle.ov_history.specs.Layers.{layers_of}
use Rattle.ov_history.specs.Refusals.{IsLegal, tests_of}
use Rattle.ov_history.specs.Sent.{SealedEnrol, SealedCreate, SealedGrant, SealedRevoke, SealedRemove}
use Rattle.ov_history.specs.Sent.{SealedReplace}
use Rattle.ov_history.specs.Laws.{NamesAreShown, NumberedOnce, SpelledOnce, UpdatesAreNumbered}
use Rattle.ov_history.specs.Laws.{UpdatesAreSpelled}
use Rattle.ov_history.proofs.ChangeLaws.{below_some}
use Rattle.ov_history.proofs.NamesOnce.{named_there, names_are_once, there_is}
use Rattle.ov_history.proofs.Showing.{history_is_shown}
use Rattle.ov_history.proofs.SoundTests.{none_applies}

pub updates_are_numbered : UpdatesAreNumbered
updates_are_numbered names (SpelledEnrol user) = (refl, refl)
updates_are_numbered names (SpelledCreate file list tokens tag text) = (refl, refl)
updates_are_numbered names (SpelledGrant user file token) = (refl, refl)
updates_are_numbered names (SpelledRevoke user file) = (refl, refl)
updates_are_numbered names (SpelledRemove file) = (refl, refl)
updates_are_numbered names (SpelledReplace name tokens tag text) = (refl, refl)

pub updates_are_spelled : UpdatesAreSpelled
updates_are_spelled names (SealedEnrol user) = (refl, refl)
updates_are_spelled names (SealedCreate file list tokens tag text) = (refl, refl)
updates_are_spelled names (SealedGrant user file token) = (refl, refl)
updates_are_spelled names (SealedRevoke user file) = (refl, refl)
updates_are_spelled names (SealedRemove file) = (refl, refl)
updates_are_spelled names (SealedReplace file tokens tag text) = (refl, refl)

pub names_are_shown : NamesAreShown
names_are_shown master c g stands =
    ap (λ (m : Matrix). file_names m.files) (history_is_shown master c g stands).matrix

-- ---- names by number

-- a name that is among these is at its place: it is the first, or it is among the others
pub name_at : (name : List ℕ) (names : List (List ℕ)) → place_of name names < length names
    → slice_index_or names (place_of name names) [] ≡ name
name_at name [] below = absurd (omega (arith, below))
name_at name (first ∷ names) below =
    by_test (bytes_eq name first) refl below (λ low. name_at name names low) where
      by_test : (b : Bool) → bytes_eq name first ≡ b
          → here_or_after b (place_of name names) < length (first ∷ names)
          → (place_of name names < length names
          → slice_index_or names (place_of name names) [] ≡ name)
          → slice_index_or (first ∷ names) (here_or_after b (place_of name names)) [] ≡ name
      by_test true is low others = sym ((bytes_eq-Decides name first).0 is)
      by_test false is low others = others (omega (arith, low))

pub length-names : (files : List (Option File)) → length (file_names files) ≡ length files
length-names [] = refl
length-names (file ∷ files) = ap suc (length-names files)

-- the name at a number is that of its file
pub names_at : (files : List (Option File)) (n : ℕ)
    → slice_index_or (file_names files) n [] ≡ name_left (living_at files n)
names_at [] n = refl
names_at (file ∷ files) zero = refl
names_at (file ∷ files) (suc n) = names_at files n

-- after a legal history the place of a file's name is its number
number_of_name : (h : History) (n : ℕ) (f : File) → IsLegal h
    → living_at (matrix_of h).files n ≡ Some f → (f.name ≡ [] → ⊥)
    → place_of f.name (file_names (matrix_of h).files) ≡ n
number_of_name h n f legal is some =
    let files : List (Option File) = (matrix_of h).files in
    let k : ℕ = place_of f.name (file_names files) in
    let there : is_some (living_at files k) ≡ true = named_there files f.name some n f is refl in
    let (g, found) = there_is (living_at files k) there in
    let below : k < length (file_names files) =
    omega (arith, below_some files k there, length-names files) in
    let same : g.name ≡ f.name =
    ap name_left (sym found) ∙ sym (names_at files k) ∙ name_at f.name (file_names files) below in
    names_are_once h k n g f legal found is same (λ none. some (sym same ∙ none))

-- ---- updates

pub spelled_once : SpelledOnce
spelled_once h (SpelledEnrol user) none = refl
spelled_once h (SpelledCreate file list tokens tag text) none = refl
spelled_once h (SpelledGrant user file token) none = refl
spelled_once h (SpelledRevoke user file) none = refl
spelled_once h (SpelledRemove file) none = refl
spelled_once h (SpelledReplace name tokens tag text) none =
    let files : List (Option File) = (matrix_of h).files in
    let k : ℕ = place_of name (file_names files) in
    let there : is_file (matrix_of h) k ≡ true =
    true_of_not (is_file (matrix_of h) k)
    (none_applies
    (tests_of (matrix_of h) (layers_of h) (epoch_of h) (Replaced k (length text))) none).0 in
    let below : k < length (file_names files) =
    omega (arith, below_some files k there, length-names files) in
    ap (λ these. SpelledReplace these tokens tag text)
    (name_at name (file_names files) below)

pub numbered_once : NumberedOnce
numbered_once h (SealedEnrol user) legal none named = refl
numbered_once h (SealedCreate file list tokens tag text) legal none named = refl
numbered_once h (SealedGrant user file token) legal none named = refl
numbered_once h (SealedRevoke user file) legal none named = refl
numbered_once h (SealedRemove file) legal none named = refl
numbered_once h (SealedReplace file tokens tag text) legal none named =
    let files : List (Option File) = (matrix_of h).files in
    let there : is_file (matrix_of h) file ≡ true =
    true_of_not (is_file (matrix_of h) file)
    (none_applies
    (tests_of (matrix_of h) (layers_of h) (epoch_of h) (Replaced file (length text))) none).0 in
    let (f, is) = there_is (living_at files file) there in
    let same : slice_index_or (file_names files) file [] ≡ f.name =
    names_at files file ∙ ap name_left is in
    ap (λ n. SealedReplace n tokens tag text)
    (ap (λ name. place_of name (file_names files)) same
    ∙ number_of_name h file f legal is (λ none. named (same ∙ none)))
