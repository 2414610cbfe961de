-- The S-box in a basis over the field of 16 elements, by tables of 16 entries.
use Rattle.std.specs.Prelude.{ℕ, ◌/◌, ◌%◌, ◌^◌, Bool, cond, ltb, leb, ◌||◌, List, [], ◌∷◌, bit_xor, bit_and, slice_index}
use Rattle.ov_aes.specs.declared.tower.TheConstants.{INV, INVA, LOW, HIGH, OUT_A, OUT_B, ONE_A, ONE_B, TWO_A, TWO_B}

-- a place that a look-up has: one of 16, or one from 128 on, which gives 0
abbrev pub is_place : ℕ → Bool
is_place j = leb 128 j || ltb j 16

-- the entry at a place
abbrev pub entry_at : List ℕ → ℕ → ℕ
entry_at t j = cond (leb 128 j) 0 (slice_index t j)

-- a byte in the basis over the field of 16
abbrev pub into_tower : ℕ → ℕ
into_tower x = bit_xor (entry_at LOW (bit_and x 15)) (entry_at HIGH (x / 2 ^ 4))

-- the low one of the two elements of the field of 16 that a byte is
abbrev pub low_of : ℕ → ℕ
low_of y = bit_and y 15

-- the high one of the two elements of the field of 16 that a byte is
abbrev pub high_of : ℕ → ℕ
high_of y = y / 2 ^ 4

-- the sum of the high and the low element of a byte
abbrev pub both_of : ℕ → ℕ
both_of y = bit_xor (high_of y) (low_of y)

-- the first of four steps to the inverse of such a byte; the last two are its elements
abbrev pub first_of : ℕ → ℕ
first_of y = bit_xor (entry_at INV (high_of y)) (entry_at INVA (low_of y))

-- the second of four steps to the inverse of such a byte
abbrev pub second_of : ℕ → ℕ
second_of y = bit_xor (entry_at INV (both_of y)) (entry_at INVA (low_of y))

-- the third step to the inverse of such a byte, which gives one element of it
abbrev pub third_of : ℕ → ℕ
third_of y = bit_xor (entry_at INV (first_of y)) (both_of y)

-- the fourth step to the inverse of such a byte, which gives the other element of it
abbrev pub fourth_of : ℕ → ℕ
fourth_of y = bit_xor (entry_at INV (second_of y)) (high_of y)

-- the S-box of such a byte, in the standard's basis, but for the constant of the affine map
abbrev pub out_of_tower : ℕ → ℕ
out_of_tower y = bit_xor (entry_at OUT_A (third_of y)) (entry_at OUT_B (fourth_of y))

-- the S-box of such a byte, in the basis over the field of 16, but for the constant of the affine
-- map
abbrev pub one_of : ℕ → ℕ
one_of y = bit_xor (entry_at ONE_A (third_of y)) (entry_at ONE_B (fourth_of y))

-- the product of the S-box of such a byte with 2, in the basis over the field of 16
abbrev pub two_of : ℕ → ℕ
two_of y = bit_xor (entry_at TWO_A (third_of y)) (entry_at TWO_B (fourth_of y))

-- the images of the low elements in the standard's basis
abbrev from_low : List ℕ
from_low =
    0x00 ∷ 0x60 ∷ 0xb6 ∷ 0xd6 ∷ 0x29 ∷ 0x49 ∷ 0x9f ∷ 0xff
    ∷ 0x08 ∷ 0x68 ∷ 0xbe ∷ 0xde ∷ 0x21 ∷ 0x41 ∷ 0x97 ∷ 0xf7 ∷ []

-- the images of the high elements in the standard's basis
abbrev from_high : List ℕ
from_high =
    0x00 ∷ 0xec ∷ 0xbc ∷ 0x50 ∷ 0x51 ∷ 0xbd ∷ 0xed ∷ 0x01
    ∷ 0xe0 ∷ 0x0c ∷ 0x5c ∷ 0xb0 ∷ 0xb1 ∷ 0x5d ∷ 0x0d ∷ 0xe1 ∷ []

-- the byte in the standard's basis
abbrev pub from_tower : ℕ → ℕ
from_tower y = bit_xor (slice_index from_low (y % 16)) (slice_index from_high (y / 16))

-- the sum of five elements
abbrev pub sum5 : ℕ → ℕ → ℕ → ℕ → ℕ → ℕ
sum5 a b c d e = bit_xor (bit_xor (bit_xor (bit_xor a b) c) d) e
