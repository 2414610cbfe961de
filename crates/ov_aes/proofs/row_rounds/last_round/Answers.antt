-- Each column of a block, from its four rows.
use Rattle.std.proofs.Common.{◌≡◌, ℕ, ◌+◌, ◌*◌, ◌%◌, ◌<◌, [], ◌∷◌, bit_xor, get_or, ap, arith, refl, slice_index}
use Rattle.ov_aes.specs.Cipher.{sbox}
use Rattle.ov_aes.specs.Rows.{lane_in}
use Rattle.ov_aes.specs.State.{word_in}
use Rattle.ov_aes.specs.Tower.{from_tower}
use Rattle.ov_aes.proofs.RowRounds.{Column, columns, left_to}
use Rattle.ov_aes.proofs.row_rounds.last_round.Goals as goal

pub returns : goal.returns
returns c b n w lb key =
    let f : ℕ → ℕ → ℕ = λ r k. lane_in (c.left.result ∷ c.left-2.result ∷ c.left-3.result ∷ c.left-4.result ∷ []) b r k in
    let w_at : ℕ → ℕ → ℕ = λ r k. slice_index (word_in w (4 * n + k)) r in
    let g : ℕ → ℕ → ℕ = λ r k. bit_xor (sbox (from_tower (lane_in c.args.rows b r ((k + r) % 4)))) (w_at r k) in
    let key_at : ℕ → ℕ → ℕ = λ r k. lane_in c.args.key b r k in
    let col : (k : ℕ) → k < 4 → key_at 0 k ≡ bit_xor (w_at 0 k) 0x63 → key_at 1 k ≡ bit_xor (w_at 1 k) 0x63
    → key_at 2 k ≡ bit_xor (w_at 2 k) 0x63 → key_at 3 k ≡ bit_xor (w_at 3 k) 0x63
    → from_tower (lane_in c.args.rows b 0 k) ≡ from_tower (lane_in c.args.rows b 0 ((k + 0) % 4)) → Column f g k
    = λ k lk k0 k1 k2 k3 same.
    let l = 4 * b + k in
    let lt : l < 16 = omega arith in
    record {
      first = left_to _ _ _ _ _ (c.left.ensures l lt) same k0;
      second = left_to _ _ _ _ _ (c.left-2.ensures l lt) (ap from_tower (c.one_on.ensures b k lb lk)) k1;
      third = left_to _ _ _ _ _ (c.left-3.ensures l lt) (ap from_tower (c.two_on.ensures b k lb lk)) k2;
      fourth = left_to _ _ _ _ _ (c.left-4.ensures l lt) (ap from_tower (c.three_on.ensures b k lb lk)) k3;
    } in
    columns f g
    (col 0 (omega arith) (ap (λ t. get_or t 0 0) key) (ap (λ t. get_or t 1 0) key) (ap (λ t. get_or t 2 0) key) (ap (λ t. get_or t 3 0) key) refl)
    (col 1 (omega arith) (ap (λ t. get_or t 4 0) key) (ap (λ t. get_or t 5 0) key) (ap (λ t. get_or t 6 0) key) (ap (λ t. get_or t 7 0) key) refl)
    (col 2 (omega arith) (ap (λ t. get_or t 8 0) key) (ap (λ t. get_or t 9 0) key) (ap (λ t. get_or t 10 0) key) (ap (λ t. get_or t 11 0) key) refl)
    (col 3 (omega arith) (ap (λ t. get_or t 12 0) key) (ap (λ t. get_or t 13 0) key) (ap (λ t. get_or t 14 0) key) (ap (λ t. get_or t 15 0) key) refl)
