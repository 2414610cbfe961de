-- The bytes of a sum of words that are held as numbers.
use Rattle.std.proofs.Common.{◌≡◌, ℕ, ◌/◌, ◌%◌, ◌^◌, List, refl, ◌∙◌, ap, bit_xor}
use Rattle.std.specs.Int.{w32, to_le_bytes}
use Rattle.std.proofs.lemmas.Nat.{xor_mod, xor_shr}
use Rattle.ov_aes.specs.State.{add_words}

-- the byte that k bits lie below
byte_of_sum : (k x y : ℕ) → bit_xor x y / 2 ^ k % 2 ^ 8 ≡ bit_xor (x / 2 ^ k % 2 ^ 8) (y / 2 ^ k % 2 ^ 8)
byte_of_sum k x y = ap (λ n. n % 2 ^ 8) (xor_shr x y k) ∙ xor_mod (x / 2 ^ k) (y / 2 ^ k) 8

bytes_of_sum : (x y : ℕ) → to_le_bytes w32 (bit_xor x y) ≡ add_words (to_le_bytes w32 x) (to_le_bytes w32 y)
bytes_of_sum x y = rw (byte_of_sum 8 x y, byte_of_sum 16 x y, byte_of_sum 24 x y, xor_mod x y 8) refl

pub sum_of_words : (x y : ℕ) (xs ys : List ℕ) → to_le_bytes w32 x ≡ xs → to_le_bytes w32 y ≡ ys → to_le_bytes w32 (bit_xor x y) ≡ add_words xs ys
sum_of_words x y xs ys ex ey = bytes_of_sum x y ∙ ap (λ (t : List ℕ). add_words t (to_le_bytes w32 y)) ex ∙ ap (λ (t : List ℕ). add_words xs t) ey
