-- How many users are in a set.
use Rattle.std.proofs.Common.{ℕ, suc, zero, ◌≡◌, ◌≢◌, ◌<◌, ◌≤◌, ◌+◌, ◌*◌, ◌/◌, ◌%◌, ◌^◌, sym, ◌∙◌, ap, arith, inl, inr, Bool, true, false, not, ◌&&◌, ◌||◌, ◌==◌, refl, true≢false, min, eq-eqb}
use Rattle.std.specs.Prelude.{bit_and, max}
use Rattle.std.proofs.lemmas.Bool.{cases_eq, ne_eqb}
use Rattle.std.proofs.lemmas.Nat.{ones_cat, ones_le_self, zero_from_ones, pow_pos, or_shr, and_shr}
use Rattle.std.proofs.lemmas.Nat.Bits.{bit_at-suc, bit_at_lowest, bit_at_or, bit_at_and}
use Rattle.std.specs.Int.{bit_at}
use Rattle.ov_base.specs.Sets.{empty, single, has, Has, Within, union, size, with, without}
use Rattle.ov_base.proofs.SetLaws.{Has-bit, bit-Has, Has-single, each_within, single_within, empty-Has, empty_within, has-both, has-with, has-without, same_members, union_same, union_within_left}

size_bit : (r : ℕ) → r < 2 → size r ≡ r
size_bit r h = elim (cases_eq r 0) [
  | inl none ↦ rw none (let e = ones_le_self 0 in omega arith)
  | inr some ↦ elim (cases_eq (size r) 0) [
    | inl zeroed ↦ absurd (some (zero_from_ones r zeroed))
    | inr more ↦ let e = ones_le_self r in omega arith
  ]
]

-- the size by halves
halves : (n : ℕ) → size n ≡ size (n / 2) + n % 2
halves n =
    let e : n ≡ (n / 2) * 2 ^ 1 + n % 2 = omega arith in
    ap size e ∙ ones_cat 1 (n / 2) (n % 2) (omega arith) ∙ ap (λ r. size (n / 2) + r) (size_bit (n % 2) (omega arith))

pub size-empty : size empty ≡ 0
size-empty = size_bit 0 (omega arith)

pub size-single : (n : ℕ) → size (single n) ≡ 1
size-single n =
    let e : 2 ^ n ≡ 1 * 2 ^ n + 0 = omega arith in
    let p = size_bit 0 (omega arith) in let q = size_bit 1 (omega arith) in
    ap size e ∙ ones_cat n 1 0 (pow_pos n) ∙ omega arith

-- a set of no users is empty
pub size_none : (s : ℕ) → size s ≡ 0 → s ≡ empty
size_none s h = zero_from_ones s h

half_within : (a b : ℕ) → Within a b → Within (a / 2) (b / 2)
half_within a b all n h = bit-Has (b / 2) n (sym (bit_at-suc b n) ∙ Has-bit b (suc n) (all (suc n) (bit-Has a (suc n) (bit_at-suc a n ∙ Has-bit (a / 2) n h))))

low_within : (a b : ℕ) → Within a b → a % 2 ≤ b % 2
low_within a b all = elim (cases_eq (a % 2) 1) [
  | inl one ↦ let g : bit_at b 0 ≡ 1 = Has-bit b 0 (all 0 (bit-Has a 0 (bit_at_lowest a ∙ one))) in let e = bit_at_lowest b in omega arith
  | inr none ↦ omega arith
]

up_to : (w a b : ℕ) → a ≤ w → Within a b → size a ≤ size b
up_to zero a b h all = let e : a ≡ 0 = omega arith in rw e (let z = ones_le_self 0 in omega arith)
up_to (suc w) a b h all = elim (cases_eq a 0) [
  | inl none ↦ rw none (let z = ones_le_self 0 in omega arith)
  | inr some ↦
      let less : a / 2 ≤ w = omega arith in
      omega (arith, halves a, halves b, low_within a b all, up_to w (a / 2) (b / 2) less (half_within a b all))
]

-- a subset has at most as many users
pub size-Within : (a b : ℕ) → Within a b → size a ≤ size b
size-Within a b all = up_to a a b (omega arith) all

strict_up_to : (w a b : ℕ) → b ≤ w → Within a b → a ≢ b → size a < size b
strict_up_to zero a b h all other =
    let e : b ≡ 0 = omega arith in
    let z = ones_le_self 0 in
    let k : size a ≤ size 0 = rw (← e) (size-Within a b all) in
    absurd (other (zero_from_ones a (omega arith) ∙ sym e))
strict_up_to (suc w) a b h all other = elim (cases_eq b 0) [
  | inl none ↦
      let z = ones_le_self 0 in
      let k : size a ≤ size 0 = rw (← none) (size-Within a b all) in
      absurd (other (zero_from_ones a (omega arith) ∙ sym none))
  | inr some ↦
      let less : b / 2 ≤ w = omega arith in
      let low = low_within a b all in
      elim (cases_eq (a / 2) (b / 2)) [
        | inl same ↦ let e : size (a / 2) ≡ size (b / 2) = ap size same in omega (arith, halves a, halves b)
        | inr apart ↦ omega (arith, halves a, halves b, strict_up_to w (a / 2) (b / 2) less (half_within a b all) apart)
      ]
]

-- a strict subset has fewer users
pub size-strict : (a b : ℕ) → Within a b → a ≢ b → size a < size b
size-strict a b all other = strict_up_to b a b (omega arith) all other

-- a subset of the same size is the set
pub same_size : (a b : ℕ) → Within a b → size a ≡ size b → a ≡ b
same_size a b all e = elim (cases_eq a b) [ inl same ↦ same | inr other ↦ let less = size-strict a b all other in absurd (omega arith) ]

-- a set of one user is that user's
pub size_one : (s n : ℕ) → Has s n → size s ≡ 1 → s ≡ single n
size_one s n h e = sym (same_size (single n) s (single_within n s h) (size-single n ∙ sym e))

-- a set with a user has one at least
pub size_some : (s n : ℕ) → Has s n → 1 ≤ size s
size_some s n h = omega (arith, size-single n, size-Within (single n) s (single_within n s h))

-- ---- tests

and_parts : (x y : Bool) → (x && y) ≡ true → (x ≡ true) × (y ≡ true)
and_parts true y e = (refl, e)
and_parts false y e = absurd (true≢false (sym e))

-- ---- sizes of unions

low_union : (a b : ℕ) → union a b % 2 + bit_and a b % 2 ≡ a % 2 + b % 2
low_union a b =
    let or_bit : union a b % 2 ≡ max (a % 2) (b % 2) =
    sym (bit_at_lowest (union a b)) ∙ bit_at_or a b 0 ∙ ap (λ x. max x (bit_at b 0)) (bit_at_lowest a) ∙ ap (λ y. max (a % 2) y) (bit_at_lowest b) in
    let and_bit : bit_and a b % 2 ≡ min (a % 2) (b % 2) =
    sym (bit_at_lowest (bit_and a b)) ∙ bit_at_and a b 0 ∙ ap (λ x. min x (bit_at b 0)) (bit_at_lowest a) ∙ ap (λ y. min (a % 2) y) (bit_at_lowest b) in
    omega arith

union_up_to : (w a b : ℕ) → a ≤ w → b ≤ w → size (union a b) + size (bit_and a b) ≡ size a + size b
union_up_to zero a b h k =
    let no_a : a ≡ empty = omega arith in
    let no_b : b ≡ empty = omega arith in
    rw (no_a, no_b, union_same empty, none_both) refl where
      none_both : bit_and empty empty ≡ empty
      none_both = each_within _ _ (λ n h. absurd (empty-Has n ((and_parts (has empty n) (has empty n) (sym (has-both empty empty n) ∙ h)).0))) (empty_within _)
union_up_to (suc w) a b h k =
    let or_half : union a b / 2 ≡ union (a / 2) (b / 2) = or_shr a b 1 in
    let and_half : bit_and a b / 2 ≡ bit_and (a / 2) (b / 2) = and_shr a b 1 in
    let rest = union_up_to w (a / 2) (b / 2) (omega arith) (omega arith) in
    omega (arith, halves (union a b), halves (bit_and a b), halves a, halves b, low_union a b, ap size or_half, ap size and_half)

-- a union has the users of both sets, those of both counted once
pub size-union : (a b : ℕ) → size (union a b) + size (bit_and a b) ≡ size a + size b
size-union a b = union_up_to (a + b) a b (omega arith) (omega arith)

pub size-union-le : (a b : ℕ) → size (union a b) ≤ size a + size b
size-union-le a b = omega (arith, size-union a b)

-- ---- one user more or less

pub size-with : (s n : ℕ) → has s n ≡ false → size (with s n) ≡ size s + 1
size-with s n new =
    let apart : bit_and s (single n) ≡ empty = each_within _ _ (none_shared s n new) (empty_within _) in
    omega (arith, size-union s (single n), size-single n, ap size apart, size-empty) where
      none_shared : (s n : ℕ) → has s n ≡ false → Within (bit_and s (single n)) empty
      none_shared s n new m h =
          let parts = and_parts (has s m) (has (single n) m) (sym (has-both s (single n) m) ∙ h) in
          absurd (true≢false (sym parts.0 ∙ ap (has s) (Has-single n m parts.1) ∙ new))

pub with_member : (s n : ℕ) → Has s n → with s n ≡ s
with_member s n h = union_within_left (single n) s (single_within n s h)
