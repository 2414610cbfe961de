-- The matrix and the files that a state shows, by number and by name.
use Rattle.std.proofs.Common.{◌≡◌, ℕ, zero, suc, ◌<◌, true, false, List, [], ◌∷◌, length, refl, sym, ap, subst, arith}
use Rattle.std.specs.Prelude.{Option, Some, None, is_some, unwrap_or}
use Rattle.ov_history.specs.Places.{living_at}
use Rattle.std.proofs.lemmas.List.{get_or_past}
use Rattle.ov_history.proofs.SoundTests.{is_some-map, shown_there}
use Rattle.ov_history.specs.Catalogue.{file_shown}
use Rattle.ov_history.specs.History.{File}
use Rattle.std.proofs.Common.{◌∙◌}
use Rattle.ov_history.specs.Layers.{Layers, list_at}
use Rattle.ov_history.specs.Lists.{file_at, file_names, is_file, is_user, no_file}
use Rattle.ov_history.specs.Places.{place_of as place_among, IsNumber}
use Rattle.ov_history.specs.Catalogue.{Filed, Catalogue, filed_at, files_shown, matrix_shown, no_filed, outline, place_of_file}
use Rattle.ov_state.specs.Entries.{filed_names}
use Rattle.ov_history.specs.Asking.{file_named, user_named}
use Rattle.ov_base.proofs.Tests.{lt_is_true, lt_is_false, lt_of_true}

-- ---- files

-- the names of the matrix are those of the files
pub names_shown : (y : Layers) (files : List (Option Filed)) → file_names (files_shown y files) ≡ filed_names files
names_shown y [] = refl
names_shown y (None ∷ files) = ap (λ names. [] ∷ names) (names_shown y files)
names_shown y (Some f ∷ files) = ap (λ names. f.name ∷ names) (names_shown y files)

pub file_number_by : (s : Catalogue) (name : List ℕ) (r : Option ℕ) → IsNumber (filed_names s.files) name r
    → IsNumber (file_names (matrix_shown s).files) name r
file_number_by s name r number =
    subst (λ (ns : List (List ℕ)). IsNumber ns name r) (sym (names_shown (outline s) s.files)) number

pub length-names : (y : Layers) (files : List (Option Filed)) → length (file_names (files_shown y files)) ≡ length files
length-names y [] = refl
length-names y (f ∷ files) = ap suc (length-names y files)

list_of_file : (y : Layers) (files : List (Option Filed)) (file : ℕ) → is_some (living_at files file) ≡ true
    → (unwrap_or (living_at (files_shown y files) file) no_file).list ≡ list_at y (place_of_file (unwrap_or (living_at files file) no_filed))
list_of_file y [] file low = absurd (cc)
list_of_file y (None ∷ files) zero low = absurd (cc)
list_of_file y (Some f ∷ files) zero low = refl
list_of_file y (f ∷ files) (suc file) low = list_of_file y files file low

-- the list of a file in the matrix is read off its place
pub list_shown : (s : Catalogue) (file : ℕ) → is_some (living_at s.files file) ≡ true
    → (file_at (matrix_shown s) file).list ≡ list_at (outline s) (place_of_file (filed_at s file))
list_shown s file low = list_of_file (outline s) s.files file low

-- ---- what is there

pub user_there : (s : Catalogue) (user : ℕ) → user < length s.users → is_user (matrix_shown s) user ≡ true
user_there s user low = lt_is_true user (length s.users) low

pub user_low : (s : Catalogue) (user : ℕ) → is_user (matrix_shown s) user ≡ true → user < length s.users
user_low s user there = lt_of_true user (length s.users) there

-- a file is in the matrix where the catalogue has it
pub file_here : (s : Catalogue) (file : ℕ) → is_file (matrix_shown s) file ≡ is_some (living_at s.files file)
file_here s file =
    ap (λ (o : Option File). is_some o) (shown_there (outline s) s.files file)
    ∙ is_some-map (file_shown (outline s)) (living_at s.files file)

pub file_low : (s : Catalogue) (file : ℕ) → is_file (matrix_shown s) file ≡ true → is_some (living_at s.files file) ≡ true
file_low s file there = sym (file_here s file) ∙ there

pub no_user : (s : Catalogue) (name : List ℕ) → place_among name s.users ≡ length s.users
    → is_user (matrix_shown s) (user_named s name) ≡ false
no_user s name none = lt_is_false (user_named s name) (length s.users) (omega (arith, none))

pub file_there : (s : Catalogue) (file : ℕ) → is_some (living_at s.files file) ≡ true → is_file (matrix_shown s) file ≡ true
file_there s file there = file_here s file ∙ there

pub no_file_there : (s : Catalogue) (name : List ℕ)
    → place_among name (file_names (matrix_shown s).files) ≡ length (file_names (matrix_shown s).files)
    → is_file (matrix_shown s) (file_named s name) ≡ false
no_file_there s name none =
    file_here s (file_named s name)
    ∙ ap (λ (o : Option Filed). is_some o) (get_or_past s.files (file_named s name) None (omega (arith, none, length-names (outline s) s.files)))
