-- The bytes of the files, and how many they are after an update.
use Rattle.std.proofs.Common.{Bool, true, false, ◌≡◌, ℕ, zero, suc, ◌+◌, ◌≤◌, List, [], ◌∷◌, ◌++◌, length, refl, sym, ◌∙◌, ap, subst, arith}
use Rattle.std.specs.Prelude.{Option, Some, None, option_map}
use Rattle.ov_history.specs.Places.{change_at, gone, living_at}
use Rattle.ov_history.specs.Layers.{Layers, surface_at, same_surface}
use Rattle.ov_history.specs.Lists.{byte_sum}
use Rattle.ov_history.specs.Catalogue.{Filed, Catalogue, outline, files_shown, matrix_shown, refiled, settled_file, settled_files}

-- ---- the bytes of all files

-- the bytes of these files together
abbrev pub bytes_of_one : Option Filed → ℕ
bytes_of_one None = 0
bytes_of_one (Some f) = f.length

abbrev pub bytes_in : List (Option Filed) → ℕ
bytes_in [] = 0
bytes_in (f ∷ files) = bytes_of_one f + bytes_in files

shown_bytes : (y : Layers) (files : List (Option Filed)) → byte_sum (files_shown y files) ≡ bytes_in files
shown_bytes y [] = refl
shown_bytes y (None ∷ files) = ap (λ n. 0 + n) (shown_bytes y files)
shown_bytes y (Some f ∷ files) = ap (λ n. f.length + n) (shown_bytes y files)

pub byte_sum-shown : (s : Catalogue) → byte_sum (matrix_shown s).files ≡ bytes_in s.files
byte_sum-shown s = shown_bytes (outline s) s.files

-- the bytes of all files but one
shown_left : (y : Layers) (file : ℕ) (files : List (Option Filed)) → byte_sum (change_at gone file (files_shown y files)) ≡ bytes_in (change_at gone file files)
shown_left y file [] = refl
shown_left y zero (f ∷ files) = ap (λ n. 0 + n) (shown_bytes y files)
shown_left y (suc file) (None ∷ files) = ap (λ n. 0 + n) (shown_left y file files)
shown_left y (suc file) (Some f ∷ files) = ap (λ n. f.length + n) (shown_left y file files)

pub byte_sum-left : (s : Catalogue) (file : ℕ) → byte_sum (change_at gone file (matrix_shown s).files) ≡ bytes_in (change_at gone file s.files)
byte_sum-left s file = shown_left (outline s) file s.files

pub bytes_in-append : (files : List (Option Filed)) (f : Filed) → bytes_in (files ++ Some f ∷ []) ≡ bytes_in files + f.length
bytes_in-append [] f = omega arith
bytes_in-append (first ∷ files) f = omega (arith, bytes_in-append files f)

-- a file that goes takes its bytes with it
pub bytes_in-gone : (files : List (Option Filed)) (file : ℕ) (f : Filed) → living_at files file ≡ Some f
    → bytes_in (change_at gone file files) + f.length ≡ bytes_in files
bytes_in-gone [] file f is = absurd (cc)
bytes_in-gone (first ∷ files) zero f is =
    let own : bytes_of_one first ≡ f.length = ap bytes_of_one is in
    omega arith
bytes_in-gone (first ∷ files) (suc file) f is = omega (arith, bytes_in-gone files file f is)

pub bytes_in-fewer : (files : List (Option Filed)) (file : ℕ) → bytes_in (change_at gone file files) ≤ bytes_in files
bytes_in-fewer [] file = omega arith
bytes_in-fewer (first ∷ files) zero = omega arith
bytes_in-fewer (first ∷ files) (suc file) = omega (arith, bytes_in-fewer files file)

-- a file that is there has no more bytes than all files together
pub bytes_in-there : (s : Catalogue) (file : ℕ) (f : Filed) → living_at s.files file ≡ Some f → f.length ≤ byte_sum (matrix_shown s).files
bytes_in-there s file f is = omega (arith, byte_sum-shown s, bytes_in-gone s.files file f is)

-- ---- the bytes of each file

-- each of these files has at most this many bytes
abbrev pub AllWithin : ℕ → List (Option Filed) → Type 0
AllWithin most [] = Unit {0}
AllWithin most (f ∷ files) = (bytes_of_one f ≤ most) × AllWithin most files

pub within-each : (most : ℕ) (files : List (Option Filed)) → AllWithin most files
    → (file : ℕ) (f : Filed) → living_at files file ≡ Some f → f.length ≤ most
within-each most [] all file f is = absurd (cc)
within-each most (first ∷ files) all zero f is =
    subst (λ (o : Option Filed). bytes_of_one o ≤ most) is all.0
within-each most (first ∷ files) all (suc file) f is = within-each most files all.1 file f is

pub each-within : (most : ℕ) (files : List (Option Filed))
    → ((file : ℕ) (f : Filed) → living_at files file ≡ Some f → f.length ≤ most) → AllWithin most files
each-within most [] each = tt
each-within most (None ∷ files) each = (omega arith, each-within most files (λ file g is. each (suc file) g is))
each-within most (Some f ∷ files) each = (each 0 f refl, each-within most files (λ file g is. each (suc file) g is))

pub within-append : (most : ℕ) (files : List (Option Filed)) (f : Filed) → AllWithin most files → f.length ≤ most
    → AllWithin most (files ++ Some f ∷ [])
within-append most [] f all last = (last, tt)
within-append most (first ∷ files) f all last = (all.0, within-append most files f all.1 last)

pub within-gone : (most : ℕ) (files : List (Option Filed)) (file : ℕ) → AllWithin most files → AllWithin most (change_at gone file files)
within-gone most [] file all = tt
within-gone most (first ∷ files) zero all = (omega arith, all.1)
within-gone most (first ∷ files) (suc file) all = (all.0, within-gone most files file all.1)

-- ---- files that are settled

refiled_length : (b : Bool) (epoch : ℕ) (surface : Option ℕ) (f : Filed) → (refiled b epoch surface f).length ≡ f.length
refiled_length true epoch surface f = refl
refiled_length false epoch surface f = refl

module _ (epoch : ℕ) (sets : List ℕ) where
  pub length-settled : (wants : List (Option ℕ)) (files : List (Option Filed)) → length (settled_files epoch sets wants files) ≡ length files
  length-settled [] files = refl
  length-settled (want ∷ wants) [] = refl
  length-settled (want ∷ wants) (f ∷ files) = ap suc (length-settled wants files)

  same_length : (want : Option ℕ) (f : Filed) → (settled_file epoch sets want f).length ≡ f.length
  same_length want f = refiled_length (same_surface f.surface (surface_at sets want)) epoch (surface_at sets want) f

  same_bytes : (want : Option ℕ) (f : Option Filed) → bytes_of_one (option_map (settled_file epoch sets want) f) ≡ bytes_of_one f
  same_bytes want None = refl
  same_bytes want (Some f) = same_length want f

  pub bytes_in-settled : (wants : List (Option ℕ)) (files : List (Option Filed)) → bytes_in (settled_files epoch sets wants files) ≡ bytes_in files
  bytes_in-settled [] files = refl
  bytes_in-settled (want ∷ wants) [] = refl
  bytes_in-settled (want ∷ wants) (f ∷ files) =
      ap (λ n. n + bytes_in (settled_files epoch sets wants files)) (same_bytes want f)
      ∙ ap (λ n. bytes_of_one f + n) (bytes_in-settled wants files)

  pub within-settled : (most : ℕ) (wants : List (Option ℕ)) (files : List (Option Filed)) → AllWithin most files
      → AllWithin most (settled_files epoch sets wants files)
  within-settled most [] files all = all
  within-settled most (want ∷ wants) [] all = tt
  within-settled most (want ∷ wants) (f ∷ files) all =
      (subst (λ n. n ≤ most) (sym (same_bytes want f)) all.0, within-settled most wants files all.1)
