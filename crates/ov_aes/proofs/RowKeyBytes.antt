-- A byte of a round key, from the row that has it.
use Rattle.std.proofs.Common.{◌≡◌, ℕ, ◌+◌, ◌*◌, ◌/◌, ◌%◌, ◌<◌, ◌≤◌, List, bit_xor, get_or, arith, slice_index}
use Rattle.ov_aes.specs.RowKeys.{IsKeyRow}
use Rattle.ov_aes.specs.State.{word_in}
use Rattle.ov_aes.specs.Tower.{from_tower}

pub middle_byte : (row : List ℕ) (w : List (List ℕ)) (i n r b c : ℕ) → IsKeyRow row w i → i ≡ 4 * n + r → r < 4 → 1 ≤ n → n < 14 → b < 4 → c < 4
    → from_tower (get_or row (4 * b + c) 0) ≡ bit_xor (slice_index (word_in w (4 * n + c)) r) 0x63
middle_byte row w i n r b c held e lr ge lt lb lc =
    let round : i / 4 ≡ n = omega (arith, e) in
    let rest : i % 4 ≡ r = omega (arith, e) in
    rw (round, rest) at (held.middle b c (omega (arith, e)) (omega (arith, e)) lb lc)
