-- A file that is created, or that replaces another, is there, and stays unless an update removes or
-- replaces it.
use Rattle.std.proofs.Common.{◌≡◌, ◌<◌, ℕ, suc, true, List, [], ◌∷◌, ◌++◌, length, refl, sym, ◌∙◌}
use Rattle.std.proofs.Common.{ap, subst}
use Rattle.std.specs.Prelude.{Contains, ◌≤◌, ◌≢◌, option_map, Option, Some, None, is_some}
use Rattle.std.proofs.Common.{arith, length-append}
use Rattle.std.proofs.lemmas.List.{get_or_append_left}
use Rattle.ov_graph.proofs.ListLaws.{Contains-first, Contains-later}
use Rattle.ov_history.specs.Places.{change_at, gone, living_at}
use Rattle.ov_history.specs.History.{Removed, Replaced, file_at, resized}
use Rattle.ov_graph.proofs.GraphLaws.{last_item}
use Rattle.ov_history.specs.History.{Created, Enrolled, File, Granted, History, Matrix, Revoked}
use Rattle.ov_history.specs.History.{Update, changed, delisted, listed, matrix_of, with_update}
use Rattle.ov_history.specs.Lists.{is_file}
use Rattle.ov_history.specs.Words.{HasFile}
use Rattle.ov_history.specs.WordLaws.{FilesBegin, FilesBeginAnew, FilesStay, NumbersStay}
use Rattle.ov_history.specs.WordLaws.{RemovedIsGone, ReplacedIsGone}
use Rattle.ov_history.proofs.ChangeLaws.{below_some, change_at-here, change_at-other}
use Rattle.ov_history.proofs.ChangeLaws.{is_some-append}
use Rattle.ov_history.proofs.ChangeLaws.{is_some-change, length-change_at}
use Rattle.ov_history.proofs.Pushing.{matrix_of-push, with_updates, with_updates-is}

pub files_begin : FilesBegin
files_begin h name list size =
    let n : ℕ = length (matrix_of h).files in
    subst (λ (m : Matrix). is_file m n ≡ true) (sym (matrix_of-push h (Created name list size)))
    (ap (λ (o : Option File). is_some o)
    (last_item (matrix_of h).files (Some (record { name = name; length = size; list = list })) n None
    refl))

-- a replacement makes one file more
pub length-anew : (m : Matrix) (file size : ℕ)
    → length (change_at gone file m.files ++ Some (resized size (file_at m file)) ∷ [])
    ≡ suc (length m.files)
length-anew m file size =
    let left : List (Option File) = change_at gone file m.files in
    omega (
      arith,
      length-change_at gone file m.files,
      length-append left (Some (resized size (file_at m file)) ∷ []),
    )

pub files_begin_anew : FilesBeginAnew
files_begin_anew h file size =
    let m : Matrix = matrix_of h in
    let n : ℕ = length m.files in
    let left : List (Option File) = change_at gone file m.files in
    subst (λ (next : Matrix). is_file next n ≡ true) (sym (matrix_of-push h (Replaced file size)))
    (ap (λ (o : Option File). is_some o)
    (last_item left (Some (resized size (file_at m file))) n None
    (sym (length-change_at gone file m.files))))

stays_there : (m : Matrix) (u : Update) (file : ℕ) → u ≢ Removed file
    → ((size : ℕ) → u ≢ Replaced file size) → is_file m file ≡ true
    → is_file (changed m u) file ≡ true
stays_there m (Enrolled name) file other also there = there
stays_there m (Created name list size) file other also there =
    is_some-append m.files (Some (record { name = name; length = size; list = list }) ∷ []) file there
stays_there m (Granted user place) file other also there =
    is_some-change (listed user) place m.files file ∙ there
stays_there m (Revoked user place) file other also there =
    is_some-change (delisted user) place m.files file ∙ there
stays_there m (Removed place) file other also there =
    ap (λ (o : Option File). is_some o)
    (change_at-other gone place file m.files None (λ same. other (ap (λ n. Removed n) (sym same))))
    ∙ there
stays_there m (Replaced place size) file other also there =
    is_some-append (change_at gone place m.files) (Some (resized size (file_at m place)) ∷ []) file
    (ap (λ (o : Option File). is_some o)
    (change_at-other gone place file m.files None
    (λ same. also size (ap (λ n. Replaced n size) (sym same))))
    ∙ there)

there-all : (h : History) (more : List Update) (file : ℕ) → HasFile h file
    → (Contains more (Removed file) → ⊥) → ((size : ℕ) → Contains more (Replaced file size) → ⊥)
    → HasFile (with_updates h more) file
there-all h [] file there none also = there
there-all h (u ∷ more) file there none also =
    there-all (with_update h u) more file
    (subst (λ (m : Matrix). is_file m file ≡ true) (sym (matrix_of-push h u))
    (stays_there (matrix_of h) u file
    (λ is. none (subst (λ (v : Update). Contains (u ∷ more) v) is (Contains-first u more)))
    (λ size is.
    also size (subst (λ (v : Update). Contains (u ∷ more) v) is (Contains-first u more))) there))
    (λ later. none (Contains-later u more (Removed file) later))
    (λ size later. also size (Contains-later u more (Replaced file size) later))

pub files_stay : FilesStay
files_stay h more file there none also =
    subst (λ (g : History). HasFile g file) (with_updates-is h more)
    (there-all h more file there none also)

-- ---- removals, replacements and numbers

pub removed_is_gone : RemovedIsGone
removed_is_gone h file there =
    let still : is_file (changed (matrix_of h) (Removed file)) file ≡ true =
    subst (λ (m : Matrix). is_file m file ≡ true) (matrix_of-push h (Removed file)) there in
    let left : living_at (change_at gone file (matrix_of h).files) file ≡ None =
    change_at-here gone file (matrix_of h).files None refl in
    absurd (cc)

pub replaced_is_gone : ReplacedIsGone
replaced_is_gone h file size was there =
    let m : Matrix = matrix_of h in
    let left : List (Option File) = change_at gone file m.files in
    let below : file < length left =
    omega (arith, below_some m.files file was, length-change_at gone file m.files) in
    let still : is_file (changed m (Replaced file size)) file ≡ true =
    subst (λ (next : Matrix). is_file next file ≡ true) (matrix_of-push h (Replaced file size)) there in
    let none : living_at (left ++ Some (resized size (file_at m file)) ∷ []) file ≡ None =
    get_or_append_left left (Some (resized size (file_at m file)) ∷ []) None file below
    ∙ change_at-here gone file m.files None refl in
    absurd (cc)

numbers_grow : (m : Matrix) (u : Update) → length m.files ≤ length (changed m u).files
numbers_grow m (Enrolled name) = omega arith
numbers_grow m (Created name list size) =
    let f : Option File = Some (record { name = name; length = size; list = list }) in
    omega (arith, length-append m.files (f ∷ []))
numbers_grow m (Granted user place) = omega (arith, length-change_at (option_map (listed user)) place m.files)
numbers_grow m (Revoked user place) = omega (arith, length-change_at (option_map (delisted user)) place m.files)
numbers_grow m (Removed place) = omega (arith, length-change_at gone place m.files)
numbers_grow m (Replaced place size) = omega (arith, length-anew m place size)

numbers-all : (h : History) (more : List Update)
    → length (matrix_of h).files ≤ length (matrix_of (with_updates h more)).files
numbers-all h [] = omega arith
numbers-all h (u ∷ more) =
    let one : length (matrix_of h).files ≤ length (matrix_of (with_update h u)).files =
    subst (λ (m : Matrix). length (matrix_of h).files ≤ length m.files) (sym (matrix_of-push h u))
    (numbers_grow (matrix_of h) u) in
    omega (arith, one, numbers-all (with_update h u) more)

pub numbers_stay : NumbersStay
numbers_stay h more =
    subst (λ (g : History). length (matrix_of h).files ≤ length (matrix_of g).files)
    (with_updates-is h more) (numbers-all h more)
