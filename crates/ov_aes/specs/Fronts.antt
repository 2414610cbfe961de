-- What the first two rounds have in common for blocks that differ in their last byte alone.
use Rattle.std.specs.Prelude.{◌≡◌, ℕ, zero, suc, ◌+◌, ◌-◌, ◌*◌, ◌%◌, ◌<◌, List, [], ◌∷◌, ◌++◌, map, bit_xor, slice_index, slice_index_or}
use Rattle.std.specs.List.{range_with_len}
use Rattle.ov_aes.specs.Cipher.{rounds, sbox}
use Rattle.ov_aes.specs.Field.{times}
use Rattle.ov_aes.specs.KeyExpansion.{key_expansion}
use Rattle.ov_aes.specs.Rows.{lane_in}
use Rattle.ov_aes.specs.State.{byte_in, word_in}
use Rattle.ov_aes.specs.Tower.{from_tower}
use Rattle.ov_aes.specs.declared.front.Front.{Front}

-- the block with another last byte
abbrev pub with_last : List ℕ → ℕ → List ℕ
with_last block x = map (λ i. slice_index block i) (range_with_len 0 15) ++ x ∷ []

-- the fixed matrix of the column mixing
abbrev matrix : List (List ℕ)
matrix =
    (2 ∷ 3 ∷ 1 ∷ 1 ∷ [])
    ∷ (1 ∷ 2 ∷ 3 ∷ 1 ∷ [])
    ∷ (1 ∷ 1 ∷ 2 ∷ 3 ∷ [])
    ∷ (3 ∷ 1 ∷ 1 ∷ 2 ∷ [])
    ∷ []

-- the entry of the fixed matrix in a row and a column
abbrev pub weight : ℕ → ℕ → ℕ
weight r i = slice_index (slice_index_or matrix r []) i

-- the product of a weight and a byte
abbrev pub scaled : ℕ → ℕ → ℕ
scaled zero y = 0
scaled (suc zero) y = y
scaled (suc (suc n)) y = times (n + 2) y

-- a weight's product with the S-box of a byte, but for a constant
abbrev pub weighed : ℕ → ℕ → ℕ
weighed m y = bit_xor (scaled m (sbox y)) (scaled m 0x63)

-- the row whose byte in column 0 a round moves to column c
abbrev pub row_for : ℕ → ℕ
row_for c = (4 - c) % 4

-- the rows of a front
abbrev pub front_rows : Front → List (List ℕ)
front_rows front = front.row_0 ∷ front.row_1 ∷ front.row_2 ∷ front.row_3 ∷ []

-- what a front is of the blocks that are this one but for the last byte: the last byte's key;
-- column 0 after round 1 without the terms of the last byte; and all of round 2 without the terms
-- of that column. Column 0 is arranged by the columns to which round 2 moves its bytes
pub record IsFront (front : Front) (w : List (List ℕ)) (block : List ℕ) : Type 0 where
  pub last : (b c : ℕ) → b < 4 → c < 4
      → from_tower (slice_index front.last (4 * b + c)) ≡ slice_index (word_in w 3) 3
  pub column : (b c : ℕ) → b < 4 → c < 4
      → from_tower (slice_index front.column (4 * b + c))
      ≡ bit_xor (byte_in (rounds w block 1) (row_for c) 0)
      (weighed (weight (row_for c) 3) (byte_in (rounds w block 0) 3 3))
  pub rows : (b r c : ℕ) → b < 4 → r < 4 → c < 4
      → from_tower (lane_in (front_rows front) b r c)
      ≡ bit_xor (byte_in (rounds w block 2) r c)
      (weighed (weight r (row_for c)) (byte_in (rounds w block 1) (row_for c) 0))

-- the front of blocks that are this one but for the last byte, under a key
abbrev pub IsFrontOf : Front → List ℕ → List ℕ → Type 0
IsFrontOf front key block = IsFront front (key_expansion key) block
