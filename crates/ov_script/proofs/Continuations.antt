-- What the front of a line goes on with, byte by byte.
use Rattle.std.proofs.Common.{◌≡◌, ℕ, ◌+◌, ◌*◌, ◌-◌, Bool, true, false, List, [], ◌∷◌, ◌++◌, length, refl, sym, subst, arith, ◌&&◌, ◌==◌, Some, None}
use Rattle.std.specs.Prelude.{nat_lt, nat_le}
use Rattle.std.proofs.lemmas.Bool.Decides.{nat_tests}
use Rattle.ov_base.specs.declared.limits.TheConstants.{MAX_FILE_BYTES}
use Rattle.ov_base.specs.Names.{is_letter_or_digit}
use Rattle.ov_script.specs.LineFronts.{spelling, chosen_by, word_by, is_spelled, is_named, is_digit, step, run}
use Rattle.ov_script.specs.declared.front.Front.{Front}
use Rattle.ov_script.specs.declared.front.Front.TheVariants.{Start, InStem, InWord, InName, AtReaders, Nobody, InSize, Done, Never}
use Rattle.ov_script.proofs.Fitting.{SpaceThen, IsSize, Fits}
use Rattle.ov_script.proofs.NameFits.{fits_name, name_fits, fits_readers, readers_fits}
use Rattle.ov_script.proofs.SizeFits.{fits_size, first_digit_fits, size_fits}
use Rattle.ov_script.proofs.WordFits.{fits_first, first_fits, fits_next, next_fits, fits_word, word_fits}

-- ---- behind a list without names

fits_nobody : (b : ℕ) (text : List ℕ) → SpaceThen IsSize (b ∷ text) → Fits (chosen_by (b == 32) (InSize None) Never) text
fits_nobody b text (rest, e, size) =
    let first : 32 ≡ b = cc in
    let same : rest ≡ text = cc in
    subst (λ c. Fits (chosen_by (c == 32) (InSize None) Never) text) first (subst IsSize same size)

nobody_fits : (b : ℕ) (text : List ℕ) (space : Bool) → (b == 32) ≡ space → Fits (chosen_by space (InSize None) Never) text → SpaceThen IsSize (b ∷ text)
nobody_fits b text true is_space p = let first : b ≡ 32 = grind (arith, nat_tests) in (text, cc, p)
nobody_fits b text false is_space p = absurd p

-- ---- one byte

pub fits_step : (front : Front) (b : ℕ) (text : List ℕ) → Fits front (b ∷ text) → Fits (step front b) text
fits_step Start b text (word, rest, e, p) = fits_first word b text rest e p
fits_step (InStem stem) b text p = fits_next stem b text p
fits_step (InWord word count) b text p =
    let f = fits_word word count b text (count + 1 == length (spelling word)) refl p in
    subst (λ (t : Bool). Fits (word_by t (count + 1 == length (spelling word)) word count) text) (sym f.0) f.1
fits_step (InName next count) b text p = fits_name next count b text p
fits_step AtReaders b text p = fits_readers b text p
fits_step Nobody b text p = fits_nobody b text p
fits_step (InSize size) b text p = fits_size size b text p
fits_step Done b text p = absurd (cc)
fits_step Never b text p = p

pub step_fits : (front : Front) (b : ℕ) (text : List ℕ) → Fits (step front b) text → Fits front (b ∷ text)
step_fits Start b text p = first_fits b text p
step_fits (InStem stem) b text p = next_fits stem b text p
step_fits (InWord word count) b text p = word_fits word count b text (is_spelled word count b) (count + 1 == length (spelling word)) refl refl p
step_fits (InName next count) b text p = name_fits next count b text (is_named count b) (nat_lt 0 count) refl refl p
step_fits AtReaders b text p = readers_fits b text (is_letter_or_digit b) (b == 45) refl refl p
step_fits Nobody b text p = nobody_fits b text (b == 32) refl p
step_fits (InSize None) b text p = first_digit_fits b text (is_digit b) refl p
step_fits (InSize (Some n)) b text p = size_fits n b text (is_digit b && (nat_lt 0 n && nat_le (n * 10 + (b - 48)) MAX_FILE_BYTES)) refl p
step_fits Done b text p = absurd p
step_fits Never b text p = p

-- ---- many bytes

pub fits_run : (front : Front) (bytes text : List ℕ) → Fits front (bytes ++ text) → Fits (run front bytes) text
fits_run front [] text p = p
fits_run front (b ∷ bytes) text p = fits_run (step front b) bytes text (fits_step front b (bytes ++ text) p)

pub run_fits : (front : Front) (bytes text : List ℕ) → Fits (run front bytes) text → Fits front (bytes ++ text)
run_fits front [] text p = p
run_fits front (b ∷ bytes) text p = step_fits front b (bytes ++ text) (run_fits (step front b) bytes text p)

pub run-append : (front : Front) (xs ys : List ℕ) → run front (xs ++ ys) ≡ run (run front xs) ys
run-append front [] ys = refl
run-append front (x ∷ xs) ys = run-append (step front x) xs ys
