-- Four blocks by their rows: lane 4 b + c of row r is block b's byte in row r, column c.
use Rattle.std.specs.Prelude.{ℕ, ◌+◌, ◌*◌, List, [], ◌∷◌, bit_xor, slice_index, slice_index_or}
use Rattle.ov_aes.specs.State.{state_of, word_in}
use Rattle.ov_aes.specs.Tower.{from_tower}

-- the byte of block b in row r and column c
abbrev pub lane_in : List (List ℕ) → ℕ → ℕ → ℕ → ℕ
lane_in rows b r c = slice_index (slice_index_or rows r []) (4 * b + c)

-- block b
abbrev pub block_in : List (List ℕ) → ℕ → List ℕ
block_in rows b = state_of (λ r c. lane_in rows b r c)

-- block b, where the rows are in the basis over the field of 16
abbrev pub held_in : List (List ℕ) → ℕ → List ℕ
held_in rows b = state_of (λ r c. from_tower (lane_in rows b r c))

-- the round key of a round, as a block
abbrev pub round_key : List (List ℕ) → ℕ → List ℕ
round_key w round = state_of (λ r c. slice_index (word_in w (4 * round + c)) r)

-- a round key but for the constant that the affine maps of a column leave
abbrev pub flat_key : List (List ℕ) → ℕ → List ℕ
flat_key w round = state_of (λ r c. bit_xor (slice_index (word_in w (4 * round + c)) r) 0x63)

-- the rows of the key of a round, where four rows stand for each round
abbrev pub rows_at : List (List ℕ) → ℕ → List (List ℕ)
rows_at keys round =
    slice_index_or keys (4 * round) []
    ∷ slice_index_or keys (4 * round + 1) []
    ∷ slice_index_or keys (4 * round + 2) []
    ∷ slice_index_or keys (4 * round + 3) []
    ∷ []
