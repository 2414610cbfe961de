-- What is shown of a table by computing it at all 256 bytes.
use Rattle.std.proofs.Common.{◌≡◌, ℕ, ◌<◌, List, [], ◌∷◌, refl, sym, ◌∙◌, ap, map, get_or, zero-add}
use Rattle.std.specs.List.{range_with_len}
use Rattle.std.specs.Int.{w32, to_le_bytes}
use Rattle.std.proofs.lemmas.List.FromFn.{get_or-map-range_with_len}
use Rattle.ov_aes.specs.Field.{power_of_x, times}
use Rattle.ov_aes.specs.Cipher.{sbox}
use Rattle.ov_aes.specs.declared.columns.TheConstants.{TERMS, SECOND_TERMS, THIRD_TERMS, FOURTH_TERMS}
use Rattle.ov_aes.specs.declared.key_schedule.TheConstants.{POWERS_OF_X}
use Rattle.ov_aes.specs.declared.sbox.TheConstants.{SBOX}

-- two functions that agree on the numbers below n agree at each
pub at_each : {A : Type 0} (n : ℕ) (f g : ℕ → A) → map f (range_with_len 0 n) ≡ map g (range_with_len 0 n) → (b : ℕ) → b < n → f b ≡ g b
at_each {A} n f g e b lt =
    sym (get_or-map-range_with_len f 0 n b b (f 0) lt (zero-add b))
    ∙ ap (λ (t : List A). get_or t b (f 0)) e
    ∙ get_or-map-range_with_len g 0 n b b (f 0) lt (zero-add b)

-- two functions that agree on the bytes agree at each byte
pub at_byte : (f g : ℕ → ℕ) → map f (range_with_len 0 256) ≡ map g (range_with_len 0 256) → (b : ℕ) → b < 256 → f b ≡ g b
at_byte = at_each 256

pub sbox_entry : (b : ℕ) → b < 256 → get_or SBOX b 0 ≡ sbox b
unfolding sbox
sbox_entry = at_each 256 (λ b. get_or SBOX b 0) sbox refl

-- ---- the terms of a column, from the S-box's byte s

abbrev pub first_term : ℕ → List ℕ
first_term s = times 2 s ∷ s ∷ s ∷ times 3 s ∷ []

abbrev pub second_term : ℕ → List ℕ
second_term s = times 3 s ∷ times 2 s ∷ s ∷ s ∷ []

abbrev pub third_term : ℕ → List ℕ
third_term s = s ∷ times 3 s ∷ times 2 s ∷ s ∷ []

abbrev pub fourth_term : ℕ → List ℕ
fourth_term s = s ∷ s ∷ times 3 s ∷ times 2 s ∷ []

pub first_entry : (b : ℕ) → b < 256 → to_le_bytes w32 (get_or TERMS b 0) ≡ first_term (sbox b)
first_entry b lt =
    at_each 256 (λ i. to_le_bytes w32 (get_or TERMS i 0)) (λ i. first_term (get_or SBOX i 0)) refl b lt
    ∙ ap first_term (sbox_entry b lt)

pub second_entry : (b : ℕ) → b < 256 → to_le_bytes w32 (get_or SECOND_TERMS b 0) ≡ second_term (sbox b)
second_entry b lt =
    at_each 256 (λ i. to_le_bytes w32 (get_or SECOND_TERMS i 0)) (λ i. second_term (get_or SBOX i 0)) refl b lt
    ∙ ap second_term (sbox_entry b lt)

pub third_entry : (b : ℕ) → b < 256 → to_le_bytes w32 (get_or THIRD_TERMS b 0) ≡ third_term (sbox b)
third_entry b lt =
    at_each 256 (λ i. to_le_bytes w32 (get_or THIRD_TERMS i 0)) (λ i. third_term (get_or SBOX i 0)) refl b lt
    ∙ ap third_term (sbox_entry b lt)

pub fourth_entry : (b : ℕ) → b < 256 → to_le_bytes w32 (get_or FOURTH_TERMS b 0) ≡ fourth_term (sbox b)
fourth_entry b lt =
    at_each 256 (λ i. to_le_bytes w32 (get_or FOURTH_TERMS i 0)) (λ i. fourth_term (get_or SBOX i 0)) refl b lt
    ∙ ap fourth_term (sbox_entry b lt)
