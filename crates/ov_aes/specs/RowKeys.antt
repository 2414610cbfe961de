-- The round keys in the rows of four blocks.
use Rattle.std.specs.Prelude.{◌≡◌, ℕ, ◌+◌, ◌*◌, ◌/◌, ◌%◌, ◌<◌, ◌≤◌, List, bit_xor, slice_index}
use Rattle.ov_aes.specs.Rows.{block_in, flat_key, held_in, round_key, rows_at}
use Rattle.ov_aes.specs.State.{word_in}
use Rattle.ov_aes.specs.Tower.{from_tower}

-- row i % 4 of the key of round i / 4, as that round takes it
pub record IsKeyRow (row : List ℕ) (w : List (List ℕ)) (i : ℕ) : Type 0 where
  pub first : (b c : ℕ) → i < 4 → b < 4 → c < 4
      → from_tower (slice_index row (4 * b + c))
      ≡ slice_index (word_in w (4 * (i / 4) + c)) (i % 4)
  pub middle : (b c : ℕ) → 4 ≤ i → i < 56 → b < 4 → c < 4
      → from_tower (slice_index row (4 * b + c))
      ≡ bit_xor (slice_index (word_in w (4 * (i / 4) + c)) (i % 4)) 0x63
  pub last : (b c : ℕ) → 56 ≤ i → b < 4 → c < 4
      → slice_index row (4 * b + c)
      ≡ bit_xor (slice_index (word_in w (4 * (i / 4) + c)) (i % 4)) 0x63

-- the keys are those of a key schedule, in each of the four blocks
pub record IsRowKeys (keys w : List (List ℕ)) : Type 0 where
  pub first : (b : ℕ) → b < 4 → held_in (rows_at keys 0) b ≡ round_key w 0
  pub middle : (n b : ℕ) → 1 ≤ n → n < 14 → b < 4 → held_in (rows_at keys n) b ≡ flat_key w n
  pub last : (b : ℕ) → b < 4 → block_in (rows_at keys 14) b ≡ flat_key w 14
