-- What the digits of a size say.
use Rattle.std.proofs.Common.{◌≡◌, ℕ, ◌+◌, ◌*◌, ◌-◌, ◌<◌, ◌≤◌, Bool, true, false, List, [], ◌∷◌, ◌++◌, length, refl, sym, ◌∙◌, ap, subst, append_assoc, append-nil, arith, ◌&&◌, Option, Some, None}
use Rattle.std.specs.Prelude.{nat_lt, nat_le}
use Rattle.std.specs.Fmt.{decimal}
use Rattle.std.proofs.lemmas.Bool.{and_parts, and_from}
use Rattle.std.proofs.lemmas.Bool.Decides.{nat_tests}
use Rattle.std.proofs.lemmas.Fmt.{decimal_nonempty, decimal_injective}
use Rattle.ov_base.specs.declared.limits.TheConstants.{MAX_FILE_BYTES}
use Rattle.ov_script.specs.declared.front.Front.TheVariants.{InSize, Never}
use Rattle.ov_script.specs.LineFronts.{is_digit, size_by, size_step, run, size_read}
use Rattle.ov_script.proofs.SizeFronts.{first_digit, digit_is_number, digit_bounds, one_more, more_is_number}

abbrev digits_so_far : Option ℕ → List ℕ
digits_so_far None = []
digits_so_far (Some n) = decimal n

abbrev SoFar : Option ℕ → Type 0
SoFar None = Unit {0}
SoFar (Some n) = n ≤ MAX_FILE_BYTES

-- one more digit, where it is one
pub record Stepped (size : Option ℕ) (b : ℕ) : Type 0 where
  next : ℕ
  is : size_step size b ≡ InSize (Some next)
  low : next ≤ MAX_FILE_BYTES
  digits : decimal next ≡ digits_so_far size ++ b ∷ []

stepped_first : (b : ℕ) → is_digit b ≡ true → decimal (b - 48) ≡ b ∷ [] → Stepped None b
stepped_first b d e = record { next = b - 48; is = ap (λ t. size_by t (b - 48)) d; low = (let bounds = digit_bounds b d in omega (arith, bounds.1)); digits = e }

stepped_more : (n b : ℕ) → is_digit b ≡ true → 0 < n → n * 10 + (b - 48) ≤ MAX_FILE_BYTES → decimal (n * 10 + (b - 48)) ≡ decimal n ++ b ∷ [] → Stepped (Some n) b
stepped_more n b d some low e =
    let positive : nat_lt 0 n ≡ true = grind (arith, nat_tests) in
    let fits : nat_le (n * 10 + (b - 48)) MAX_FILE_BYTES ≡ true = grind (arith, nat_tests) in
    let test : (is_digit b && (nat_lt 0 n && nat_le (n * 10 + (b - 48)) MAX_FILE_BYTES)) ≡ true =
    and_from (is_digit b) (nat_lt 0 n && nat_le (n * 10 + (b - 48)) MAX_FILE_BYTES) d (and_from (nat_lt 0 n) (nat_le (n * 10 + (b - 48)) MAX_FILE_BYTES) positive fits) in
    record { next = n * 10 + (b - 48); is = ap (λ t. size_by t (n * 10 + (b - 48))) test; low = low; digits = e }

run_never : (digits : List ℕ) → run Never digits ≡ Never
run_never [] = refl
run_never (b ∷ digits) = run_never digits

pub data Step (size : Option ℕ) (b : ℕ) : Type 0 where
  goes : Stepped size b → Step size b
  stops : size_step size b ≡ Never → Step size b

step_first : (b : ℕ) (digit : Bool) → is_digit b ≡ digit → Step None b
step_first b true d = goes (stepped_first b d (digit_is_number b d))
step_first b false d = stops (ap (λ t. size_by t (b - 48)) d)

step_more : (n b : ℕ) (test : Bool) → (is_digit b && (nat_lt 0 n && nat_le (n * 10 + (b - 48)) MAX_FILE_BYTES)) ≡ test → Step (Some n) b
step_more n b false t = stops (ap (λ t. size_by t (n * 10 + (b - 48))) t)
step_more n b true t =
    let outer = and_parts (is_digit b) (nat_lt 0 n && nat_le (n * 10 + (b - 48)) MAX_FILE_BYTES) t in
    let inner = and_parts (nat_lt 0 n) (nat_le (n * 10 + (b - 48)) MAX_FILE_BYTES) outer.1 in
    let positive : nat_lt 0 n ≡ true = inner.0 in
    let fits : nat_le (n * 10 + (b - 48)) MAX_FILE_BYTES ≡ true = inner.1 in
    let some : 0 < n = grind (arith, nat_tests) in
    let low : n * 10 + (b - 48) ≤ MAX_FILE_BYTES = grind (arith, nat_tests) in
    goes (stepped_more n b outer.0 some low (more_is_number n b outer.0 some low))

step_of : (size : Option ℕ) (b : ℕ) → Step size b
step_of None b = step_first b (is_digit b) refl
step_of (Some n) b = step_more n b (is_digit b && (nat_lt 0 n && nat_le (n * 10 + (b - 48)) MAX_FILE_BYTES)) refl

-- what was read is the number of the digits
reads : (size : Option ℕ) (digits : List ℕ) (n : ℕ) → SoFar size → size_read (run (InSize size) digits) ≡ Some n → (n ≤ MAX_FILE_BYTES) × (digits_so_far size ++ digits ≡ decimal n)
reads None [] n s e = absurd (cc)
reads (Some m) [] n s e = let same : m ≡ n = cc in (subst (λ k. k ≤ MAX_FILE_BYTES) same s, append-nil (decimal m) ∙ ap decimal same)
reads size (b ∷ digits) n s e =
    elim (step_of size b) as (λ _. (n ≤ MAX_FILE_BYTES) × (digits_so_far size ++ b ∷ digits ≡ decimal n)) [
      | goes p ↦
          let rest = reads (Some p.next) digits n p.low (ap (λ f. size_read (run f digits)) (sym p.is) ∙ e) in
          (rest.0, sym (append_assoc (digits_so_far size) (b ∷ []) digits) ∙ ap (λ l. l ++ digits) (sym p.digits) ∙ rest.1)
      | stops never ↦ let none : None ≡ Some n = ap size_read (sym (run_never digits)) ∙ ap (λ f. size_read (run f digits)) (sym never) ∙ e in absurd (cc)
    ]

-- the digits of a number that isn't too large are read
steps_on : (size : Option ℕ) (b : ℕ) (digits : List ℕ) (n : ℕ) → SoFar size → n ≤ MAX_FILE_BYTES → digits_so_far size ++ b ∷ digits ≡ decimal n → Stepped size b
steps_on None b digits n s low e = let f = first_digit b n digits low e in stepped_first b f.0 f.1
steps_on (Some m) b digits n s low e = let f = one_more m b n digits s low e in stepped_more m b f.digit f.some f.within f.number

is_read : (size : Option ℕ) (digits : List ℕ) (n : ℕ) → SoFar size → n ≤ MAX_FILE_BYTES → digits_so_far size ++ digits ≡ decimal n → size_read (run (InSize size) digits) ≡ Some n
is_read None [] n s low e =
    let some : 0 < length (decimal n) = decimal_nonempty n (omega arith) in
    let none : 0 ≡ length (decimal n) = ap length e in
    absurd (omega arith)
is_read (Some m) [] n s low e = ap Some (decimal_injective m n (omega (arith, s)) (omega arith) (sym (append-nil (decimal m)) ∙ e))
is_read size (b ∷ digits) n s low e =
    let p = steps_on size b digits n s low e in
    ap (λ f. size_read (run f digits)) p.is ∙ is_read (Some p.next) digits n p.low low (ap (λ l. l ++ digits) p.digits ∙ append_assoc (digits_so_far size) (b ∷ []) digits ∙ e)

pub size_found : (digits : List ℕ) (n : ℕ) → size_read (run (InSize None) digits) ≡ Some n → (n ≤ MAX_FILE_BYTES) × (digits ≡ decimal n)
size_found digits n e = reads None digits n tt e

pub size_none : (digits : List ℕ) → size_read (run (InSize None) digits) ≡ None → (n : ℕ) → n ≤ MAX_FILE_BYTES → digits ≡ decimal n → ⊥
size_none digits none n low e = let found : None ≡ Some n = sym none ∙ is_read None digits n tt low e in absurd (cc)
