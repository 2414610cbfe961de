-- A file keeps its name while it is there.
use Rattle.std.proofs.Common.{◌≡◌, ◌<◌, ℕ, zero, suc, true, List, [], ◌∷◌, ◌++◌, length, refl, sym, ◌∙◌, ap}
use Rattle.std.proofs.Common.{subst, arith}
use Rattle.std.specs.Prelude.{Option, Some, None, is_some, option_map, unwrap_or}
use Rattle.std.proofs.lemmas.List.{get_or_append_left}
use Rattle.ov_history.specs.History.{Created, Enrolled, File, Granted, History, Matrix, Removed}
use Rattle.ov_history.specs.History.{Replaced, Revoked, Update, changed, delisted, listed, matrix_of}
use Rattle.ov_history.specs.History.{resized, with_update}
use Rattle.ov_history.specs.Places.{change_at, gone, living_at}
use Rattle.ov_history.specs.Lists.{file_at, is_file, no_file}
use Rattle.ov_history.specs.Words.{HasFile, longer}
use Rattle.ov_exposure.specs.Exposure.{NameIsOne}
use Rattle.ov_history.proofs.ChangeLaws.{below_some, gone_other, length-change_at}
use Rattle.ov_exposure.proofs.Moments.{kept_at_both}
use Rattle.ov_history.proofs.Pushing.{matrix_of-push, with_updates, with_updates-is}
use Rattle.ov_history.proofs.Staying.{number_stays, was_there-all}

abbrev name_in : Option File → List ℕ
name_in o = (unwrap_or o no_file).name

name_changed : (f : File → File) → ((x : File) → (f x).name ≡ x.name) → (place : ℕ)
    (xs : List (Option File)) (n : ℕ)
    → name_in (living_at (change_at (option_map f) place xs) n) ≡ name_in (living_at xs n)
name_changed f same place [] n = refl
name_changed f same zero (None ∷ xs) zero = refl
name_changed f same zero (Some x ∷ xs) zero = same x
name_changed f same zero (x ∷ xs) (suc n) = refl
name_changed f same (suc place) (x ∷ xs) zero = refl
name_changed f same (suc place) (x ∷ xs) (suc n) = name_changed f same place xs n

name_next : (m : Matrix) (u : Update) (file : ℕ) → file < length m.files
    → is_file (changed m u) file ≡ true
    → (file_at (changed m u) file).name ≡ (file_at m file).name
name_next m (Enrolled name) file below there = refl
name_next m (Created name list size) file below there =
    ap (λ (o : Option File). name_in o)
    (get_or_append_left m.files
    (Some (record { name = name; length = size; list = list }) ∷ []) None file below)
name_next m (Granted user place) file below there =
    name_changed (listed user) (λ x. refl) place m.files file
name_next m (Revoked user place) file below there =
    name_changed (delisted user) (λ x. refl) place m.files file
name_next m (Removed place) file below there =
    ap (λ (o : Option File). name_in o) (gone_other place m.files file there)
name_next m (Replaced place size) file below there =
    let left : List (Option File) = change_at gone place m.files in
    let last : Option File = Some (resized size (file_at m place)) in
    let low : file < length left = omega (arith, below, length-change_at gone place m.files) in
    let front : living_at (left ++ last ∷ []) file ≡ living_at left file =
    get_or_append_left left (last ∷ []) None file low in
    ap (λ (o : Option File). name_in o)
    (front
    ∙ gone_other place m.files file (ap (λ (o : Option File). is_some o) (sym front) ∙ there))

name_all : (h : History) (more : List Update) (file : ℕ) → HasFile h file
    → HasFile (with_updates h more) file
    → (file_at (matrix_of (with_updates h more)) file).name ≡ (file_at (matrix_of h) file).name
name_all h [] file there still = refl
name_all h (u ∷ more) file there still =
    let low : file < length (matrix_of h).files = below_some (matrix_of h).files file there in
    let below : file < length (matrix_of (with_update h u)).files =
    subst (λ (m : Matrix). file < length m.files) (sym (matrix_of-push h u))
    (number_stays (matrix_of h) u file low) in
    let next : HasFile (with_update h u) file =
    was_there-all (with_update h u) more file below still in
    name_all (with_update h u) more file next still
    ∙ ap (λ (m : Matrix). (file_at m file).name) (matrix_of-push h u)
    ∙ name_next (matrix_of h) u file low
    (subst (λ (m : Matrix). is_file m file ≡ true) (matrix_of-push h u) next)

name_stays : (file : ℕ) (h : History) (more : List Update) → HasFile h file
    → HasFile (longer h more) file
    → (file_at (matrix_of (longer h more)) file).name ≡ (file_at (matrix_of h) file).name
name_stays file h more there still =
    subst (λ (next : History). HasFile next file
    → (file_at (matrix_of next) file).name ≡ (file_at (matrix_of h) file).name)
    (with_updates-is h more) (name_all h more file there) still

pub name_is_one : NameIsOne
name_is_one g before other file first second there still =
    kept_at_both (λ (h : History). (file_at (matrix_of h) file).name) file (name_stays file) g
    before other first second there still
