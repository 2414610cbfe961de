-- Whom a catalogue shows to be listed: by the place of a file in its layers, as in the matrix of
-- its history.
use Rattle.std.proofs.Common.{◌≡◌, ℕ, zero, suc, List, [], ◌∷◌, sym, ◌∙◌, ap}
use Rattle.std.specs.Prelude.{Some}
use Rattle.ov_base.specs.Sets.{has}
use Rattle.ov_history.specs.History.{File, Matrix, matrix_of}
use Rattle.ov_history.specs.Lists.{file_at, is_listed, no_file}
use Rattle.ov_history.specs.Layers.{Layers, list_at}
use Rattle.ov_history.specs.Catalogue.{Catalogue, Filed, file_shown, files_shown, outline}
use Rattle.ov_history.specs.Catalogue.{place_of_file}
use Rattle.ov_history.specs.Sealed.{IsSealed, SealedHistory, catalogue_of, outer_of}
use Rattle.ov_history.proofs.Showing.{matrix-shown}
use Rattle.std.specs.Prelude.{Option}
use Rattle.std.specs.Prelude.{option_map}
use Rattle.std.specs.Prelude.{unwrap_or}
use Rattle.ov_history.specs.Places.{living_at}

file_of_filed : (y : Layers) (files : List (Option Filed)) (file : ℕ) (f : Filed)
    → living_at files file ≡ Some f
    → unwrap_or (living_at (files_shown y files) file) no_file ≡ file_shown y f
file_of_filed y [] file f is = absurd (cc)
file_of_filed y (first ∷ files) zero f is =
    ap (λ (o : Option Filed). unwrap_or (option_map (file_shown y) o) no_file) is
file_of_filed y (first ∷ files) (suc file) f is = file_of_filed y files file f is

-- the list of a file in the matrix is the one that is read off its place
pub list-shown : (master : List ℕ) (g : SealedHistory) (file : ℕ) (f : Filed) → IsSealed g
    → living_at (catalogue_of master g).files file ≡ Some f
    → (file_at (matrix_of (outer_of g)) file).list
    ≡ list_at (outline (catalogue_of master g)) (place_of_file f)
list-shown master g file f fit is =
    let c : Catalogue = catalogue_of master g in
    ap (λ (m : Matrix). (file_at m file).list) (sym (matrix-shown master g fit))
    ∙ ap (λ (shown : File). shown.list) (file_of_filed (outline c) c.files file f is)

pub listed-shown : (master : List ℕ) (g : SealedHistory) (user file : ℕ) (f : Filed) → IsSealed g
    → living_at (catalogue_of master g).files file ≡ Some f
    → is_listed (matrix_of (outer_of g)) user file
    ≡ has (list_at (outline (catalogue_of master g)) (place_of_file f)) user
listed-shown master g user file f fit is =
    ap (λ list. has list user) (list-shown master g file f fit is)

-- the users that are shown
pub users-shown : (master : List ℕ) (g : SealedHistory) → IsSealed g
    → (catalogue_of master g).users ≡ (matrix_of (outer_of g)).users
users-shown master g fit = ap (λ (m : Matrix). m.users) (matrix-shown master g fit)
