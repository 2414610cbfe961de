-- The columns of four blocks after a round.
use Rattle.std.proofs.Common.{◌≡◌, ℕ, zero, suc, ◌+◌, ◌%◌, [], ◌∷◌, bit_xor, ◌∙◌, refl}
use Rattle.std.specs.Int.Bits.{xor_zero_r}
use Rattle.ov_aes.specs.Cipher.{sbox}
use Rattle.ov_aes.specs.Field.{times}
use Rattle.ov_aes.specs.State.{state_of}
use Rattle.ov_aes.specs.Tower.{sum5}
use Rattle.ov_aes.proofs.Linear.{sum5-constants, xor_swap}

-- two states have one column
pub record Column (f g : ℕ → ℕ → ℕ) (c : ℕ) : Type 0 where
  pub first : f 0 c ≡ g 0 c
  pub second : f 1 c ≡ g 1 c
  pub third : f 2 c ≡ g 2 c
  pub fourth : f 3 c ≡ g 3 c

pub columns : (f g : ℕ → ℕ → ℕ) → Column f g 0 → Column f g 1 → Column f g 2 → Column f g 3 → state_of f ≡ state_of g
columns f g a b c d =
    λ i. a.first i ∷ a.second i ∷ a.third i ∷ a.fourth i
    ∷ b.first i ∷ b.second i ∷ b.third i ∷ b.fourth i
    ∷ c.first i ∷ c.second i ∷ c.third i ∷ c.fourth i
    ∷ d.first i ∷ d.second i ∷ d.third i ∷ d.fourth i ∷ []

-- the byte of a round in a row and a column, from the S-box's bytes before it and its key's
abbrev pub mixed_at : (ℕ → ℕ → ℕ) → (ℕ → ℕ → ℕ) → ℕ → ℕ → ℕ
mixed_at s k zero c = sum5 (times 2 (s 0 c)) (times 3 (s 1 ((c + 1) % 4))) (s 2 ((c + 2) % 4)) (s 3 ((c + 3) % 4)) (k 0 c)
mixed_at s k (suc zero) c = sum5 (s 0 c) (times 2 (s 1 ((c + 1) % 4))) (times 3 (s 2 ((c + 2) % 4))) (s 3 ((c + 3) % 4)) (k 1 c)
mixed_at s k (suc (suc zero)) c = sum5 (s 0 c) (s 1 ((c + 1) % 4)) (times 2 (s 2 ((c + 2) % 4))) (times 3 (s 3 ((c + 3) % 4))) (k 2 c)
mixed_at s k (suc (suc (suc r))) c = sum5 (times 3 (s 0 c)) (s 1 ((c + 1) % 4)) (s 2 ((c + 2) % 4)) (times 2 (s 3 ((c + 3) % 4))) (k 3 c)

-- a byte with a constant in it
pub record Offset (v a k : ℕ) : Type 0 where
  pub is : v ≡ bit_xor a k

-- a sum whose constants go
pub summed_to : {r p q s t u a b c d e k l m n o : ℕ} → r ≡ sum5 p q s t u → Offset p a k → Offset q b l → Offset s c m → Offset t d n → Offset u e o
    → sum5 k l m n o ≡ 0 → r ≡ sum5 a b c d e
summed_to {a = a} {b = b} {c = c} {d = d} {e = e} {k = k} {l = l} {m = m} {n = n} {o = o} sum ep eq es et eu none =
    sum ∙ (λ i. sum5 (ep.is i) (eq.is i) (es.is i) (et.is i) (eu.is i)) ∙ sum5-constants a b c d e k l m n o none

-- the byte of the last round
pub left_to : (r v x p k : ℕ) → r ≡ bit_xor (bit_xor (sbox v) 0x63) p → v ≡ x → p ≡ bit_xor k 0x63 → r ≡ bit_xor (sbox x) k
left_to r v x p k e ev ep =
    let there : bit_xor (bit_xor (sbox v) 0x63) p ≡ bit_xor (bit_xor (sbox x) 0x63) (bit_xor k 0x63) = rw (ev, ep) refl in
    e ∙ there ∙ xor_swap (sbox x) 0x63 k 0x63 ∙ xor_zero_r (bit_xor (sbox x) k)
