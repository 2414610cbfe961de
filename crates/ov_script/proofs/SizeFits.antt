-- What the digits of a size go on with.
use Rattle.std.proofs.Common.{◌≡◌, ℕ, ◌+◌, ◌*◌, ◌-◌, ◌<◌, ◌≤◌, Bool, true, false, List, [], ◌∷◌, ◌++◌, sym, ◌∙◌, ap, subst, append_assoc, arith, ◌&&◌, Option, Some, None}
use Rattle.std.specs.Prelude.{nat_lt, nat_le}
use Rattle.std.specs.Fmt.{decimal}
use Rattle.std.proofs.lemmas.Bool.{and_parts, and_from}
use Rattle.std.proofs.lemmas.Bool.Decides.{nat_tests}
use Rattle.ov_base.specs.declared.limits.TheConstants.{MAX_FILE_BYTES}
use Rattle.ov_script.specs.LineFronts.{size_by, is_digit, size_step}
use Rattle.ov_script.specs.declared.front.Front.TheVariants.{InSize}
use Rattle.ov_script.proofs.Fitting.{Fits}
use Rattle.ov_script.proofs.SizeFronts.{first_digit, digit_is_number, digit_bounds, one_more, more_is_number}

pub fits_size : (size : Option ℕ) (b : ℕ) (text : List ℕ) → Fits (InSize size) (b ∷ text) → Fits (size_step size b) text
fits_size None b text (m, low, e) =
    let f = first_digit b m text low e in
    let bounds = digit_bounds b f.0 in
    let high : b ≤ 57 = bounds.1 in
    subst (λ (t : Bool). Fits (size_by t (b - 48)) text) (sym f.0) (omega arith, (m, low, ap (λ d. d ++ text) f.1 ∙ e))
fits_size (Some n) b text (n_low, (m, low, e)) =
    let f = one_more n b m text n_low low e in
    let some : 0 < n = f.some in
    let within : n * 10 + (b - 48) ≤ MAX_FILE_BYTES = f.within in
    let positive : nat_lt 0 n ≡ true = grind (arith, nat_tests) in
    let fits : nat_le (n * 10 + (b - 48)) MAX_FILE_BYTES ≡ true = grind (arith, nat_tests) in
    let test : (is_digit b && (nat_lt 0 n && nat_le (n * 10 + (b - 48)) MAX_FILE_BYTES)) ≡ true =
    and_from (is_digit b) (nat_lt 0 n && nat_le (n * 10 + (b - 48)) MAX_FILE_BYTES) f.digit (and_from (nat_lt 0 n) (nat_le (n * 10 + (b - 48)) MAX_FILE_BYTES) positive fits) in
    subst (λ (t : Bool). Fits (size_by t (n * 10 + (b - 48))) text) (sym test) (within, (m, low, ap (λ d. d ++ text) f.number ∙ append_assoc (decimal n) (b ∷ []) text ∙ e))

pub first_digit_fits : (b : ℕ) (text : List ℕ) (digit : Bool) → is_digit b ≡ digit → Fits (size_by digit (b - 48)) text → Fits (InSize None) (b ∷ text)
first_digit_fits b text true d (low, (m, m_low, e)) = (m, m_low, ap (λ l. l ++ text) (sym (digit_is_number b d)) ∙ e)
first_digit_fits b text false d p = absurd p

pub size_fits : (n b : ℕ) (text : List ℕ) (test : Bool) → (is_digit b && (nat_lt 0 n && nat_le (n * 10 + (b - 48)) MAX_FILE_BYTES)) ≡ test
    → Fits (size_by test (n * 10 + (b - 48))) text → Fits (InSize (Some n)) (b ∷ text)
size_fits n b text false t p = absurd p
size_fits n b text true t (low, (m, m_low, e)) =
    let outer = and_parts (is_digit b) (nat_lt 0 n && nat_le (n * 10 + (b - 48)) MAX_FILE_BYTES) t in
    let inner = and_parts (nat_lt 0 n) (nat_le (n * 10 + (b - 48)) MAX_FILE_BYTES) outer.1 in
    let positive : nat_lt 0 n ≡ true = inner.0 in
    let some : 0 < n = grind (arith, nat_tests) in
    (omega (arith, low), (m, m_low, sym (ap (λ l. l ++ text) (more_is_number n b outer.0 some low) ∙ append_assoc (decimal n) (b ∷ []) text) ∙ e))
