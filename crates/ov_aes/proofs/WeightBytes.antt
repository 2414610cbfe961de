-- The three weights of a byte after the S-box, by all bytes.
use Rattle.std.proofs.Common.{◌≡◌, ℕ, ◌<◌, bit_and, bit_xor, refl}
use Rattle.ov_aes.specs.Fronts.{scaled, weighed}
use Rattle.ov_aes.specs.Tower.{from_tower, one_of, two_of}
use Rattle.ov_aes.proofs.Linear.{by_sbox}

-- what is chosen of a byte and its double
abbrev pub picked_of : ℕ → ℕ → ℕ → ℕ
picked_of odd high y = bit_xor (bit_and (one_of y) odd) (bit_and (two_of y) high)

pub weight_1 : (y : ℕ) → y < 256 → from_tower (picked_of 255 0 y) ≡ weighed 1 (from_tower y)
weight_1 = by_sbox (λ y. from_tower (picked_of 255 0 y)) (λ s. bit_xor (scaled 1 s) (scaled 1 0x63)) refl

pub weight_2 : (y : ℕ) → y < 256 → from_tower (picked_of 0 255 y) ≡ weighed 2 (from_tower y)
weight_2 = by_sbox (λ y. from_tower (picked_of 0 255 y)) (λ s. bit_xor (scaled 2 s) (scaled 2 0x63)) refl

pub weight_3 : (y : ℕ) → y < 256 → from_tower (picked_of 255 255 y) ≡ weighed 3 (from_tower y)
weight_3 = by_sbox (λ y. from_tower (picked_of 255 255 y)) (λ s. bit_xor (scaled 3 s) (scaled 3 0x63)) refl
