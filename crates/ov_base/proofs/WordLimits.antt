-- Words whose users are all below a limit.
use Rattle.std.proofs.Common.{ℕ, ◌≡◌, ◌≢◌, ◌<◌, ◌≤◌, ◌+◌, ◌-◌, ◌*◌, ◌/◌, ◌%◌, ◌^◌, List, get_or, inl, inr, sym, ◌∙◌, ap, arith, w64}
use Rattle.std.proofs.lemmas.Bool.{cases_lt}
use Rattle.std.proofs.lemmas.Nat.{mod_below, pow_pos, shr_le, shr_split}
use Rattle.std.proofs.lemmas.Nat.Bits.{bit_at_above, bit_at_cat_high, bit_at-trailing_zeros}
use Rattle.std.specs.Int.{bit_at, trailing_zeros}
use Rattle.ov_base.specs.Sets.{Has}
use Rattle.ov_base.specs.Words.{set_of_words}
use Rattle.ov_base.proofs.SetLaws.{Has-bit, bit-Has}
use Rattle.ov_base.proofs.WordBits.{AllFit, bit_of_word}

-- the bits of a number from some place on
bit_from : (n place j : ℕ) → bit_at (n / 2 ^ place) j ≡ bit_at n (place + j)
bit_from n place j =
    let high = bit_at_cat_high (n / 2 ^ place) place (n % 2 ^ place) (place + j) (mod_below n (2 ^ place) (pow_pos place)) (omega arith) in
    let back : place + j - place ≡ j = omega arith in
    sym (ap (λ m. bit_at m (place + j)) (sym (shr_split n place)) ∙ high ∙ ap (bit_at (n / 2 ^ place)) back)

-- a word that isn't 0 from some place on has a user from there on
pub one_past : (ws : List ℕ) → AllFit ws → (i place : ℕ) → place < 64 → get_or ws i 0 / 2 ^ place ≢ 0
    → (user : ℕ) × (64 * i + place ≤ user) × Has (set_of_words ws) user
one_past ws fit i place low some =
    let w : ℕ = get_or ws i 0 in
    let less : w / 2 ^ place ≤ w = shr_le w place in
    let top : w < 2 ^ 64 = fit i in
    let lowest = bit_at-trailing_zeros w64 (w / 2 ^ place) (omega arith) (omega arith) in
    let j : ℕ = place + trailing_zeros w64 (w / 2 ^ place) in
    let one : bit_at w j ≡ 1 = sym (bit_from w place (trailing_zeros w64 (w / 2 ^ place))) ∙ lowest.1 in
    let inside : j < 64 = in_word j one in
    let user : ℕ = 64 * i + j in
    let row : user / 64 ≡ i = omega arith in
    let column : user % 64 ≡ j = omega arith in
    (user, omega arith, bit-Has _ user (bit_of_word ws fit user ∙ rw (row, column) one))
  where
    in_word : (j : ℕ) → bit_at (get_or ws i 0) j ≡ 1 → j < 64
    in_word j one = elim (cases_lt j 64) [
      | inl below ↦ below
      | inr above ↦ absurd (omega (arith, one, bit_at_above (get_or ws i 0) 64 j (fit i) above))
    ]

-- a user of a word that is 0 from some place on is in front of that place
pub none_past : (ws : List ℕ) → AllFit ws → (i place : ℕ) → get_or ws i 0 / 2 ^ place ≡ 0
    → (user : ℕ) → user / 64 ≡ i → Has (set_of_words ws) user → user < 64 * i + place
none_past ws fit i place none user row one =
    let bit : bit_at (get_or ws i 0) (user % 64) ≡ 1 =
    sym (ap (λ k. bit_at (get_or ws k 0) (user % 64)) row) ∙ sym (bit_of_word ws fit user) ∙ Has-bit _ user one in
    elim (cases_lt (user % 64) place) [
      | inl below ↦ omega arith
      | inr above ↦
          let split = shr_split (get_or ws i 0) place in
          let rest = mod_below (get_or ws i 0) (2 ^ place) (pow_pos place) in
          let small : get_or ws i 0 < 2 ^ place = omega (arith, split, rest, ap (λ n. n * 2 ^ place) none) in
          absurd (omega (arith, bit, bit_at_above (get_or ws i 0) place (user % 64) small above))
    ]
