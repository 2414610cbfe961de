-- When the OR and the XOR of two numbers are zero.
use Rattle.std.proofs.Common.{ℕ, ◌≡◌, ◌∙◌, ap, arith, bit_or, bit_xor}
use Rattle.std.proofs.lemmas.Nat.Bits.{bit_at-lt, bit_at-zero, bit_at_or, bit_at_xor, same_from_bits}
use Rattle.std.specs.Int.{bit_at}

pub xor-eq-zero : (a b : ℕ) → bit_xor a b ≡ 0 → a ≡ b
xor-eq-zero a b zero_xor = same_from_bits a b (λ i.
    let bits : bit_at (bit_xor a b) i ≡ bit_at 0 i = ap (λ n. bit_at n i) zero_xor in
    omega (arith, bits, bit_at-zero i, bit_at_xor a b i, bit_at-lt a i, bit_at-lt b i))

pub xor_same : (a : ℕ) → bit_xor a a ≡ 0
xor_same a = same_from_bits _ _ (λ i. omega (arith, bit_at-zero i, bit_at_xor a a i, bit_at-lt a i))

pub or-eq-zero_left : (a b : ℕ) → bit_or a b ≡ 0 → a ≡ 0
or-eq-zero_left a b zero_or = same_from_bits a 0 (λ i.
    let bits : bit_at (bit_or a b) i ≡ bit_at 0 i = ap (λ n. bit_at n i) zero_or in
    omega (arith, bits, bit_at-zero i, bit_at_or a b i))

pub or-eq-zero_right : (a b : ℕ) → bit_or a b ≡ 0 → b ≡ 0
or-eq-zero_right a b zero_or = same_from_bits b 0 (λ i.
    let bits : bit_at (bit_or a b) i ≡ bit_at 0 i = ap (λ n. bit_at n i) zero_or in
    omega (arith, bits, bit_at-zero i, bit_at_or a b i))

-- no difference so far and none here are none at all
pub or-xor-same : (d a b : ℕ) → d ≡ 0 → a ≡ b → bit_or d (bit_xor a b) ≡ 0
or-xor-same d a b none equal =
    ap (λ n. bit_or n (bit_xor a b)) none ∙ ap (λ n. bit_or 0 (bit_xor n b)) equal
    ∙ ap (λ n. bit_or 0 n) (xor_same b)
