-- Which users are in a set, and that a set is its members.
use Rattle.std.proofs.Common.{◌≡◌, ℕ, zero, suc, ◌+◌, ◌%◌, ◌^◌, ◌<◌, Bool, true, false, not, refl, sym, ◌∙◌, ap, arith, ◌&&◌, ◌||◌, ◌==◌, ◌⊎◌, inl, inr, true≢false, min, eq-eqb, ◌/◌, ◌*◌, ◌≤◌}
use Rattle.std.specs.Prelude.{bit_and, max}
use Rattle.std.specs.Int.{bit_at}
use Rattle.std.proofs.lemmas.Bool.{cases_eq, cases_lt, eqb-true, ne_eqb}
use Rattle.std.proofs.lemmas.Nat.{mod_below, pow_pos, shr_split}
use Rattle.std.proofs.lemmas.Nat.Bits.{bit_at_cat_low, bit_at_or, bit_at_and, bit_at_xor, bit_at-lt, bit_at-zero, bit_at-pow_same, bit_at-pow_other, bit_at_above, same_from_bits}
use Rattle.ov_base.specs.Sets.{empty, single, has, Has, union, within, Within, with, without, IsBelow}

-- a member's bit is one
pub Has-bit : (s n : ℕ) → Has s n → bit_at s n ≡ 1
Has-bit s n h = eqb-true _ _ h

pub bit-Has : (s n : ℕ) → bit_at s n ≡ 1 → Has s n
bit-Has s n h = eq-eqb _ _ h

-- the bit of a user who is no member is zero
pub none-has : (s n : ℕ) → bit_at s n ≡ 0 → has s n ≡ false
none-has s n h = ne_eqb _ _ (omega arith)

-- ---- what is in each set

pub has-empty : (n : ℕ) → has empty n ≡ false
has-empty n = none-has empty n (bit_at-zero n)

pub has-single : (n m : ℕ) → has (single n) m ≡ (m == n)
has-single n m = elim (cases_eq m n) [
  | inl same ↦ rw same (bit-Has (single n) n (bit_at-pow_same n) ∙ sym (eq-eqb n n refl))
  | inr other ↦ none-has (single n) m (bit_at-pow_other n m other) ∙ sym (ne_eqb m n other)
]

either : (x y : ℕ) → x < 2 → y < 2 → (max x y == 1) ≡ ((x == 1) || (y == 1))
either zero zero p q = refl
either zero (suc zero) p q = refl
either (suc zero) zero p q = refl
either (suc zero) (suc zero) p q = refl
either (suc (suc x)) y p q = absurd (omega arith)
either zero (suc (suc y)) p q = absurd (omega arith)
either (suc zero) (suc (suc y)) p q = absurd (omega arith)

both : (x y : ℕ) → x < 2 → y < 2 → (min x y == 1) ≡ ((x == 1) && (y == 1))
both zero zero p q = refl
both zero (suc zero) p q = refl
both (suc zero) zero p q = refl
both (suc zero) (suc zero) p q = refl
both (suc (suc x)) y p q = absurd (omega arith)
both zero (suc (suc y)) p q = absurd (omega arith)
both (suc zero) (suc (suc y)) p q = absurd (omega arith)

only : (x y : ℕ) → x < 2 → y < 2 → ((x + min x y) % 2 == 1) ≡ ((x == 1) && not (y == 1))
only zero zero p q = refl
only zero (suc zero) p q = refl
only (suc zero) zero p q = refl
only (suc zero) (suc zero) p q = refl
only (suc (suc x)) y p q = absurd (omega arith)
only zero (suc (suc y)) p q = absurd (omega arith)
only (suc zero) (suc (suc y)) p q = absurd (omega arith)

pub has-union : (a b n : ℕ) → has (union a b) n ≡ (has a n || has b n)
has-union a b n = ap (λ x. x == 1) (bit_at_or a b n) ∙ either (bit_at a n) (bit_at b n) (bit_at-lt a n) (bit_at-lt b n)

pub has-both : (a b n : ℕ) → has (bit_and a b) n ≡ (has a n && has b n)
has-both a b n = ap (λ x. x == 1) (bit_at_and a b n) ∙ both (bit_at a n) (bit_at b n) (bit_at-lt a n) (bit_at-lt b n)

pub has-with : (s n m : ℕ) → has (with s n) m ≡ (has s m || m == n)
has-with s n m = has-union s (single n) m ∙ ap (λ x. has s m || x) (has-single n m)

pub has-without : (s n m : ℕ) → has (without s n) m ≡ (has s m && not (m == n))
has-without s n m =
    ap (λ x. x == 1) (bit_at_xor s (bit_and s (single n)) m ∙ ap (λ x. (bit_at s m + x) % 2) (bit_at_and s (single n) m))
    ∙ only (bit_at s m) (bit_at (single n) m) (bit_at-lt s m) (bit_at-lt (single n) m)
    ∙ ap (λ x. has s m && not x) (has-single n m)

-- ---- tests

or_left : (x y : Bool) → x ≡ true → (x || y) ≡ true
or_left x y e = rw e refl

or_right : (x y : Bool) → y ≡ true → (x || y) ≡ true
or_right true y e = refl
or_right false y e = e

or_cases : (x y : Bool) → (x || y) ≡ true → (x ≡ true) ⊎ (y ≡ true)
or_cases true y e = inl refl
or_cases false y e = inr e

both_ways : (x y : Bool) → (x ≡ true → y ≡ true) → (y ≡ true → x ≡ true) → x ≡ y
both_ways true y p q = sym (p refl)
both_ways false true p q = q refl
both_ways false false p q = refl

and_left : (x y : Bool) → (x && y) ≡ x → x ≡ true → y ≡ true
and_left true y e h = e
and_left false y e h = absurd (true≢false (sym h))

and_is_left : (x y : Bool) → (x ≡ true → y ≡ true) → (x && y) ≡ x
and_is_left true y h = h refl
and_is_left false y h = refl

-- ---- members of the empty set, of one, of a union

pub empty-Has : (n : ℕ) → Has empty n → ⊥
empty-Has n h = true≢false (sym h ∙ has-empty n)

pub single-Has : (n : ℕ) → Has (single n) n
single-Has n = has-single n n ∙ eq-eqb n n refl

pub Has-single : (n m : ℕ) → Has (single n) m → m ≡ n
Has-single n m h = eqb-true m n (sym (has-single n m) ∙ h)

pub union_left : (a b : ℕ) → Within a (union a b)
union_left a b n h = has-union a b n ∙ or_left (has a n) (has b n) h

pub union_right : (a b : ℕ) → Within b (union a b)
union_right a b n h = has-union a b n ∙ or_right (has a n) (has b n) h

pub union-Has : (a b n : ℕ) → Has (union a b) n → Has a n ⊎ Has b n
union-Has a b n h = or_cases (has a n) (has b n) (sym (has-union a b n) ∙ h)

pub with-Has : (s n : ℕ) → Has (with s n) n
with-Has s n = union_right s (single n) n (single-Has n)

-- ---- a set is its members

same_bit : (x y : ℕ) → x < 2 → y < 2 → (x == 1) ≡ (y == 1) → x ≡ y
same_bit zero zero p q e = refl
same_bit zero (suc zero) p q e = absurd (true≢false (sym e))
same_bit (suc zero) zero p q e = absurd (true≢false e)
same_bit (suc zero) (suc zero) p q e = refl
same_bit (suc (suc x)) y p q e = absurd (omega arith)
same_bit zero (suc (suc y)) p q e = absurd (omega arith)
same_bit (suc zero) (suc (suc y)) p q e = absurd (omega arith)

-- two sets with the same members are equal
pub same_members : (a b : ℕ) → ((n : ℕ) → has a n ≡ has b n) → a ≡ b
same_members a b same = same_from_bits a b (λ i. same_bit (bit_at a i) (bit_at b i) (bit_at-lt a i) (bit_at-lt b i) (same i))

-- two sets that lie within one another are equal
pub each_within : (a b : ℕ) → Within a b → Within b a → a ≡ b
each_within a b p q = same_members a b (λ n. both_ways (has a n) (has b n) (p n) (q n))

-- ---- subsets

-- what the test of subsets says
pub within-Within : (a b : ℕ) → within a b ≡ true → Within a b
within-Within a b h n here = and_left (has a n) (has b n) (sym (has-both a b n) ∙ ap (λ s. has s n) (eqb-true _ _ h)) here

pub Within-within : (a b : ℕ) → Within a b → within a b ≡ true
Within-within a b h = eq-eqb _ _ (same_members (bit_and a b) a (λ n. has-both a b n ∙ and_is_left (has a n) (has b n) (h n)))

pub empty_within : (a : ℕ) → Within empty a
empty_within a n h = absurd (empty-Has n h)

pub single_within : (n t : ℕ) → Has t n → Within (single n) t
single_within n t q m h = rw (Has-single n m h) q

-- a union of subsets is a subset
pub union_within : (a b c : ℕ) → Within a c → Within b c → Within (union a b) c
union_within a b c p q n h = elim (union-Has a b n h) [ inl e ↦ p n e | inr e ↦ q n e ]

-- a set lies within the set with one user more
pub within_with : (s n : ℕ) → Within s (with s n)
within_with s n = union_left s (single n)

-- a set with one user more lies within each set that has both
pub with_within : (s n t : ℕ) → Within s t → Has t n → Within (with s n) t
with_within s n t p q = union_within s (single n) t p (single_within n t q)

and_first : (x y : Bool) → (x && y) ≡ true → x ≡ true
and_first true y e = refl
and_first false y e = e

-- a set without one user lies within the set
pub without_within : (s n : ℕ) → Within (without s n) s
without_within s n m h = and_first (has s m) (not (m == n)) (sym (has-without s n m) ∙ h)

-- ---- unions

pub union_within_left : (a b : ℕ) → Within a b → union b a ≡ b
union_within_left a b h = each_within _ _ (union_within b a b (λ n e. e) h) (union_left b a)

pub union-empty : (a : ℕ) → union a empty ≡ a
union-empty a = union_within_left empty a (empty_within a)

pub union_same : (a : ℕ) → union a a ≡ a
union_same a = union_within_left a a (λ n h. h)

pub union_comm : (a b : ℕ) → union a b ≡ union b a
union_comm a b = each_within _ _ (union_within a b _ (union_right b a) (union_left b a)) (union_within b a _ (union_right a b) (union_left a b))

-- ---- limits

-- a number below 2 ^ limit is a set of users below the limit
pub small-IsBelow : (limit s : ℕ) → s < 2 ^ limit → IsBelow limit s
small-IsBelow limit s h n one = elim (cases_lt n limit) [
  | inl below ↦ below
  | inr above ↦ absurd (omega (arith, bit_at_above s limit n h above, Has-bit s n one))
]

-- a set of users below the limit is a number below 2 ^ limit
pub IsBelow-small : (limit s : ℕ) → IsBelow limit s → s < 2 ^ limit
IsBelow-small limit s below =
    let low : s % 2 ^ limit < 2 ^ limit = mod_below s (2 ^ limit) (pow_pos limit) in
    let whole : (s / 2 ^ limit) * 2 ^ limit + s % 2 ^ limit ≡ s = shr_split s limit in
    rw (same_from_bits s (s % 2 ^ limit) (λ n. elim (cases_lt n limit) [
      | inl less ↦ ap (λ x. bit_at x n) (sym whole) ∙ bit_at_cat_low (s / 2 ^ limit) limit (s % 2 ^ limit) n less
      | inr more ↦ none_above n more ∙ sym (bit_at_above (s % 2 ^ limit) limit n low more)
    ])) low where
      none_above : (n : ℕ) → limit ≤ n → bit_at s n ≡ 0
      none_above n more = elim (cases_eq (bit_at s n) 1) [
        | inl one ↦ absurd (omega (arith, below n (bit-Has s n one)))
        | inr other ↦ omega (arith, bit_at-lt s n)
      ]

pub IsBelow-Within : (limit a b : ℕ) → Within a b → IsBelow limit b → IsBelow limit a
IsBelow-Within limit a b p q n h = q n (p n h)
