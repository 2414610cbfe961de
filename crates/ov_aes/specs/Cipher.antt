-- The cipher's transformations and rounds (FIPS 197, section 5.1), for AES-256: 14 rounds.
use Rattle.std.specs.Prelude.{ℕ, zero, suc, ◌+◌, ◌*◌, ◌/◌, ◌%◌, ◌^◌, List, [], ◌∷◌, slice_index}
use Rattle.ov_aes.specs.Field.{add, inverse, times}
use Rattle.ov_aes.specs.State.{byte_in, column_in, state_of, word_in}

-- 5.1.1: bit i of b, with i counted modulo 8
abbrev pub bit_of : ℕ → ℕ → ℕ
bit_of b i = b / 2 ^ (i % 8) % 2

-- 5.1.1: bit i of the affine map of b, with the constant c = 01100011
abbrev pub affine_bit : ℕ → ℕ → ℕ
affine_bit b i =
    (bit_of b i + bit_of b (i + 4) + bit_of b (i + 5) + bit_of b (i + 6) + bit_of b (i + 7)
    + bit_of 0x63 i) % 2

-- 5.1.1: the byte made of the lowest n bits of the affine map of b
abbrev pub affine_lowest : ℕ → ℕ → ℕ
affine_lowest zero b = 0
affine_lowest (suc n) b = affine_lowest n b + affine_bit b n * 2 ^ n

-- 5.1.1: SBOX, the affine map of the inverse
unfoldable pub sbox : ℕ → ℕ
sbox b = affine_lowest 8 (inverse b)

-- 5.1.1: SUBBYTES
abbrev pub sub_bytes : List ℕ → List ℕ
sub_bytes s = state_of (λ r c. sbox (byte_in s r c))

-- 5.1.2: SHIFTROWS, which moves the bytes of row r by r places to the left
abbrev pub shift_rows : List ℕ → List ℕ
shift_rows s = state_of (λ r c. byte_in s r ((c + r) % 4))

-- 5.1.3: a column times the fixed matrix, whose rows are 02 03 01 01, 01 02 03 01, 01 01 02 03 and
-- 03 01 01 02
abbrev pub mix_column : List ℕ → List ℕ
mix_column a =
    let a0 = slice_index a 0 in
    let a1 = slice_index a 1 in
    let a2 = slice_index a 2 in
    let a3 = slice_index a 3 in
    add (add (add (times 2 a0) (times 3 a1)) a2) a3
    ∷ add (add (add a0 (times 2 a1)) (times 3 a2)) a3
    ∷ add (add (add a0 a1) (times 2 a2)) (times 3 a3)
    ∷ add (add (add (times 3 a0) a1) a2) (times 2 a3)
    ∷ []

-- 5.1.3: MIXCOLUMNS
abbrev pub mix_columns : List ℕ → List ℕ
mix_columns s = state_of (λ r c. slice_index (mix_column (column_in s c)) r)

-- 5.1.4: ADDROUNDKEY, with the four words of the key schedule w that belong to the round
abbrev pub add_round_key : List ℕ → List (List ℕ) → ℕ → List ℕ
add_round_key s w round =
    state_of (λ r c. add (byte_in s r c) (slice_index (word_in w (4 * round + c)) r))

-- 5.1: one of the rounds 1 to 13
unfoldable pub full_round : List ℕ → List (List ℕ) → ℕ → List ℕ
full_round s w round = add_round_key (mix_columns (shift_rows (sub_bytes s))) w round

-- 5.1: the state after the rounds 1 to n
unfoldable pub rounds : List (List ℕ) → List ℕ → ℕ → List ℕ
rounds w input zero = add_round_key input w 0
rounds w input (suc n) = full_round (rounds w input n) w (n + 1)

-- 5.1: CIPHER, of a block under the key schedule w; the last round doesn't mix columns
unfoldable pub cipher : List (List ℕ) → List ℕ → List ℕ
cipher w input = add_round_key (shift_rows (sub_bytes (rounds w input 13))) w 14
