-- How the digits of a size go on.
use Rattle.std.proofs.Common.{◌≡◌, ◌⊎◌, inl, inr, ℕ, ◌+◌, ◌*◌, ◌/◌, ◌%◌, ◌-◌, ◌^◌, ◌<◌, ◌≤◌, true, List, [], ◌∷◌, ◌++◌, length, refl, sym, ◌∙◌, ap, append_assoc, length-append, arith}
use Rattle.std.specs.Prelude.{nat_le}
use Rattle.std.specs.Fmt.{decimal}
use Rattle.std.proofs.lemmas.Bool.{and_parts, and_from, cases_lt}
use Rattle.std.proofs.lemmas.Bool.Decides.{nat_tests}
use Rattle.std.proofs.lemmas.Fmt.{decimal_by_steps, decimal_step, decimal_digit, decimal_nonempty, decimal_injective}
use Rattle.ov_base.specs.declared.limits.TheConstants.{MAX_FILE_BYTES}
use Rattle.ov_script.specs.LineFronts.{is_digit}

-- the last byte of a text that is cut in two is in the second part, or this is empty
last_of : (xs ys zs : List ℕ) (c : ℕ) → xs ++ ys ≡ zs ++ c ∷ [] → ((ys ≡ []) × (xs ≡ zs ++ c ∷ [])) ⊎ ((front : List ℕ) × (xs ++ front ≡ zs) × (ys ≡ front ++ c ∷ []))
last_of [] ys zs c e = inr (zs, refl, e)
last_of (x ∷ xs) ys [] c e =
    let none : xs ++ ys ≡ [] = cc in
    let same : x ≡ c = cc in
    let sizes : length xs + length ys ≡ 0 = sym (length-append xs ys) ∙ ap length none in
    inl (nothing ys (omega arith), alone xs same (omega arith)) where
      nothing : (ys : List ℕ) → length ys ≡ 0 → ys ≡ []
      nothing [] n = refl
      nothing (y ∷ ys) n = absurd (omega arith)

      alone : {x c : ℕ} (xs : List ℕ) → x ≡ c → length xs ≡ 0 → x ∷ xs ≡ c ∷ []
      alone [] e n = ap (λ y. y ∷ []) e
      alone (y ∷ xs) e n = absurd (omega arith)
last_of (x ∷ xs) ys (z ∷ zs) c e =
    let tail : xs ++ ys ≡ zs ++ c ∷ [] = cc in
    let head : x ≡ z = cc in
    elim (last_of xs ys zs c tail) as (λ _. ((ys ≡ []) × (x ∷ xs ≡ (z ∷ zs) ++ c ∷ [])) ⊎ ((front : List ℕ) × ((x ∷ xs) ++ front ≡ z ∷ zs) × (ys ≡ front ++ c ∷ []))) [
      | inl p ↦ let rest : xs ≡ zs ++ c ∷ [] = p.1 in inl (p.0, cc)
      | inr p ↦ let rest : xs ++ p.0 ≡ zs = p.1 in inr (p.0, cc, p.2)
    ]

-- each front of a number's digits but the empty one is a number's digits
abbrev FrontsAreNumbers : ℕ → List ℕ → Type 0
FrontsAreNumbers n digits = n < 2 ^ 64 → (digits ≡ decimal n) × ((xs ys : List ℕ) → 0 < length xs → xs ++ ys ≡ digits → (m : ℕ) × (m ≤ n) × (xs ≡ decimal m))

fronts_one : (n : ℕ) → n < 10 → FrontsAreNumbers n ((48 + n) ∷ [])
fronts_one n low small = (sym (decimal_digit n low), fronts) where
  fronts : (xs ys : List ℕ) → 0 < length xs → xs ++ ys ≡ (48 + n) ∷ [] → (m : ℕ) × (m ≤ n) × (xs ≡ decimal m)
  fronts [] ys some e = absurd (omega arith)
  fronts (x ∷ []) ys some e =
      let same : x ≡ 48 + n = cc in
      (n, omega arith, ap (λ y. y ∷ []) same ∙ sym (decimal_digit n low))
  fronts (x ∷ y ∷ xs) ys some e = let none : y ∷ (xs ++ ys) ≡ [] = cc in absurd (cc)

fronts_more : (n : ℕ) (digits : List ℕ) → 10 ≤ n → FrontsAreNumbers (n / 10) digits → FrontsAreNumbers n (digits ++ ((48 + n % 10) ∷ []))
fronts_more n digits high p small = (whole, fronts) where
  before : (digits ≡ decimal (n / 10)) × ((xs ys : List ℕ) → 0 < length xs → xs ++ ys ≡ digits → (m : ℕ) × (m ≤ n / 10) × (xs ≡ decimal m))
  before = p (omega arith)

  whole : digits ++ ((48 + n % 10) ∷ []) ≡ decimal n
  whole = ap (λ d. d ++ ((48 + n % 10) ∷ [])) before.0 ∙ sym (decimal_step n high small)

  fronts : (xs ys : List ℕ) → 0 < length xs → xs ++ ys ≡ digits ++ ((48 + n % 10) ∷ []) → (m : ℕ) × (m ≤ n) × (xs ≡ decimal m)
  fronts xs ys some e =
      elim (last_of xs ys digits (48 + n % 10) e) as (λ _. (m : ℕ) × (m ≤ n) × (xs ≡ decimal m)) [
        | inl q ↦ (n, omega arith, q.1 ∙ whole)
        | inr q ↦ let r = before.1 xs q.0 some q.1 in let low : r.0 ≤ n / 10 = r.1 in (r.0, omega arith, r.2)
      ]

pub front_of_number : (n : ℕ) (xs ys : List ℕ) → n < 2 ^ 64 → 0 < length xs → xs ++ ys ≡ decimal n → (m : ℕ) × (m ≤ n) × (xs ≡ decimal m)
front_of_number n xs ys small some e = (decimal_by_steps FrontsAreNumbers fronts_one fronts_more n small small).1 xs ys some e

-- two texts with a byte at their ends
last_once : (xs ys : List ℕ) (a b : ℕ) → xs ++ a ∷ [] ≡ ys ++ b ∷ [] → (xs ≡ ys) × (a ≡ b)
last_once [] [] a b e = (refl, cc)
last_once [] (y ∷ ys) a b e =
    let none : [] ≡ ys ++ b ∷ [] = cc in
    let size : 0 ≡ length ys + 1 = ap length none ∙ length-append ys (b ∷ []) in absurd (omega arith)
last_once (x ∷ xs) [] a b e =
    let none : xs ++ a ∷ [] ≡ [] = cc in
    let size : length xs + 1 ≡ 0 = sym (length-append xs (a ∷ [])) ∙ ap length none in absurd (omega arith)
last_once (x ∷ xs) (y ∷ ys) a b e =
    let tail : xs ++ a ∷ [] ≡ ys ++ b ∷ [] = cc in
    let rest = last_once xs ys a b tail in
    let same : xs ≡ ys = rest.0 in
    let head : x ≡ y = cc in
    (cc, rest.1)

pub digit_by_test : (b : ℕ) → 48 ≤ b → b ≤ 57 → is_digit b ≡ true
digit_by_test b low high = let l : nat_le 48 b ≡ true = grind (arith, nat_tests) in let h : nat_le b 57 ≡ true = grind (arith, nat_tests) in and_from (nat_le 48 b) (nat_le b 57) l h

pub digit_bounds : (b : ℕ) → is_digit b ≡ true → (48 ≤ b) × (b ≤ 57)
digit_bounds b p = let both = and_parts (nat_le 48 b) (nat_le b 57) p in let l : nat_le 48 b ≡ true = both.0 in let h : nat_le b 57 ≡ true = both.1 in (grind (arith, nat_tests), grind (arith, nat_tests))

-- ---- the first digit

pub first_digit : (b n : ℕ) (w : List ℕ) → n ≤ MAX_FILE_BYTES → b ∷ w ≡ decimal n → (is_digit b ≡ true) × (decimal (b - 48) ≡ b ∷ [])
first_digit b n w low e =
    let f = front_of_number n (b ∷ []) w (omega arith) (omega arith) e in
    elim (cases_lt f.0 10) as (λ _. (is_digit b ≡ true) × (decimal (b - 48) ≡ b ∷ [])) [
      | inl small ↦
          let one : b ∷ [] ≡ (48 + f.0) ∷ [] = f.2 ∙ decimal_digit f.0 small in
          let same : b ≡ 48 + f.0 = cc in
          let back : b - 48 ≡ f.0 = omega arith in
          (digit_by_test b (omega arith) (omega arith), ap decimal back ∙ sym f.2)
      | inr large ↦
          let m_low : f.0 ≤ n = f.1 in
          let two : b ∷ [] ≡ decimal (f.0 / 10) ++ ((48 + f.0 % 10) ∷ []) = f.2 ∙ decimal_step f.0 large (omega arith) in
          let ends = last_once [] (decimal (f.0 / 10)) b (48 + f.0 % 10) two in
          let none : [] ≡ decimal (f.0 / 10) = ends.0 in
          let size : 0 ≡ length (decimal (f.0 / 10)) = ap length none in
          let some : 0 < length (decimal (f.0 / 10)) = decimal_nonempty (f.0 / 10) (omega arith) in
          absurd (omega arith)
    ]

pub digit_is_number : (b : ℕ) → is_digit b ≡ true → decimal (b - 48) ≡ b ∷ []
digit_is_number b p =
    let bounds = digit_bounds b p in
    let low : 48 ≤ b = bounds.0 in
    let high : b ≤ 57 = bounds.1 in
    let back : 48 + (b - 48) ≡ b = omega arith in
    decimal_digit (b - 48) (omega arith) ∙ ap (λ c. c ∷ []) back

-- ---- one more digit

pub record OneMore (n b : ℕ) : Type 0 where
  pub digit : is_digit b ≡ true
  pub some : 0 < n
  pub within : n * 10 + (b - 48) ≤ MAX_FILE_BYTES
  pub number : decimal (n * 10 + (b - 48)) ≡ decimal n ++ b ∷ []

pub one_more : (n b m : ℕ) (w : List ℕ) → n ≤ MAX_FILE_BYTES → m ≤ MAX_FILE_BYTES → decimal n ++ b ∷ w ≡ decimal m → OneMore n b
one_more n b m w n_low m_low e =
    let joined : (decimal n ++ b ∷ []) ++ w ≡ decimal m = append_assoc (decimal n) (b ∷ []) w ∙ e in
    let some : 0 < length (decimal n ++ b ∷ []) = let size = length-append (decimal n) (b ∷ []) in omega (arith, size) in
    let f = front_of_number m (decimal n ++ b ∷ []) w (omega arith) some joined in
    let p_low : f.0 ≤ m = f.1 in
    elim (cases_lt f.0 10) as (λ _. OneMore n b) [
      | inl small ↦
          let two : decimal n ++ b ∷ [] ≡ [] ++ (48 + f.0) ∷ [] = f.2 ∙ decimal_digit f.0 small in
          let ends = last_once (decimal n) [] b (48 + f.0) two in
          let size : length (decimal n) ≡ 0 = ap length ends.0 in
          let some : 0 < length (decimal n) = decimal_nonempty n (omega arith) in
          absurd (omega arith)
      | inr large ↦
          let two : decimal n ++ b ∷ [] ≡ decimal (f.0 / 10) ++ ((48 + f.0 % 10) ∷ []) = f.2 ∙ decimal_step f.0 large (omega arith) in
          let ends = last_once (decimal n) (decimal (f.0 / 10)) b (48 + f.0 % 10) two in
          let tens : n ≡ f.0 / 10 = decimal_injective n (f.0 / 10) (omega arith) (omega arith) ends.0 in
          let unit : b ≡ 48 + f.0 % 10 = ends.1 in
          let same : n * 10 + (b - 48) ≡ f.0 = omega arith in
          record {
            digit = digit_by_test b (omega arith) (omega arith);
            some = omega arith;
            within = omega arith;
            number = ap decimal same ∙ sym f.2;
          }
    ]

pub more_is_number : (n b : ℕ) → is_digit b ≡ true → 0 < n → n * 10 + (b - 48) ≤ MAX_FILE_BYTES → decimal (n * 10 + (b - 48)) ≡ decimal n ++ b ∷ []
more_is_number n b p some within =
    let bounds = digit_bounds b p in
    let low : 48 ≤ b = bounds.0 in
    let high : b ≤ 57 = bounds.1 in
    let tens : (n * 10 + (b - 48)) / 10 ≡ n = omega arith in
    let unit : 48 + (n * 10 + (b - 48)) % 10 ≡ b = omega arith in
    decimal_step (n * 10 + (b - 48)) (omega arith) (omega arith) ∙ ap (λ m. decimal m ++ ((48 + (n * 10 + (b - 48)) % 10) ∷ [])) tens ∙ ap (λ c. decimal n ++ c ∷ []) unit
