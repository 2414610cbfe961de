-- Whether some user is in both of two sets.
use Rattle.std.proofs.Common.{◌≡◌, ◌∙◌, ◌&&◌, ◌||◌, ◌==◌, ℕ, Bool, true, false, not, refl, sym, ap}
use Rattle.std.proofs.Common.{eq-eqb, inl, inr}
use Rattle.std.specs.Prelude.{bit_and}
use Rattle.std.proofs.lemmas.Bool.{cases_eq, ne_eqb, true≢false}
use Rattle.ov_base.specs.Sets.{empty, Has, has, meets, with}
use Rattle.ov_base.proofs.SetLaws.{empty-Has, has-both, has-empty, has-with, same_members, with-Has}

-- sets with nothing in common don't meet
pub apart-meets : (a b : ℕ) → bit_and a b ≡ empty → meets a b ≡ false
apart-meets a b none = ap (λ t. not t) (eq-eqb (bit_and a b) empty none)

-- sets with something in common do
pub some-meets : (a b : ℕ) → (bit_and a b ≡ empty → ⊥) → meets a b ≡ true
some-meets a b some = ap (λ t. not t) (ne_eqb (bit_and a b) empty some)

both_true : (x y : Bool) → x ≡ true → y ≡ true → (x && y) ≡ true
both_true true y one two = two
both_true false y one two = absurd (true≢false (sym one))

-- a user in both makes them meet
pub member-meets : (a b n : ℕ) → Has a n → Has b n → meets a b ≡ true
member-meets a b n one two =
    some-meets a b (λ none. empty-Has n
    (sym (ap (λ s. has s n) none) ∙ has-both a b n ∙ both_true (has a n) (has b n) one two))

-- no set meets the one without members
pub meets-empty : (a : ℕ) → meets a empty ≡ false
meets-empty a =
    apart-meets a empty
    (same_members (bit_and a empty) empty (λ n.
    has-both a empty n ∙ ap (λ x. has a n && x) (has-empty n) ∙ second_false (has a n)
    ∙ sym (has-empty n))) where
      second_false : (x : Bool) → (x && false) ≡ false
      second_false true = refl
      second_false false = refl

-- ---- a set with one user more

pub or_true : (x : Bool) → (x || true) ≡ true
or_true true = refl
or_true false = refl

pub or_false : (x : Bool) → (x || false) ≡ x
or_false true = refl
or_false false = refl

first_false : (x y z : Bool) → x ≡ false → (x && y) ≡ (x && z)
first_false true y z is = absurd (true≢false is)
first_false false y z is = refl

-- a user outside the one set changes nothing of what it has in common with the other
unchanged : (a s u n : ℕ) → has a u ≡ false → has (bit_and a (with s u)) n ≡ has (bit_and a s) n
unchanged a s u n out = elim (cases_eq n u) [
  | inl same ↦
      has-both a (with s u) n
      ∙ first_false (has a n) (has (with s u) n) (has s n) (ap (λ m. has a m) same ∙ out)
      ∙ sym (has-both a s n)
  | inr other ↦
      has-both a (with s u) n
      ∙ ap (λ x. has a n && x)
      (has-with s u n ∙ ap (λ x. has s n || x) (ne_eqb n u other) ∙ or_false (has s n))
      ∙ sym (has-both a s n)
]

-- a set meets another with one user more where it meets that, or has the user
pub meets-with : (a s u : ℕ) → meets a (with s u) ≡ (meets a s || has a u)
meets-with a s u = by_member (has a u) refl where
  by_member : (b : Bool) → has a u ≡ b → meets a (with s u) ≡ (meets a s || b)
  by_member true one =
      member-meets a (with s u) u one (with-Has s u) ∙ sym (or_true (meets a s))
  by_member false out =
      ap (λ c. not (c == empty))
      (same_members (bit_and a (with s u)) (bit_and a s) (λ n. unchanged a s u n out))
      ∙ sym (or_false (meets a s))
