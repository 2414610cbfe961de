-- Each column of a block, from its four rows.
use Rattle.std.proofs.Common.{◌≡◌, ℕ, ◌+◌, ◌*◌, ◌<◌, [], ◌∷◌, bit_xor, get_or, ◌∙◌, ap, arith, slice_index}
use Rattle.ov_aes.specs.Rows.{lane_in}
use Rattle.ov_aes.specs.State.{word_in}
use Rattle.ov_aes.specs.Tower.{from_tower}
use Rattle.ov_aes.proofs.RowRounds.{Column, columns}
use Rattle.ov_aes.proofs.row_rounds.first_key.Goals as goal

pub returns : goal.returns
returns c b w lb key =
    let f : ℕ → ℕ → ℕ = λ r k. from_tower (lane_in (c.entered.result ∷ c.entered-2.result ∷ c.entered-3.result ∷ c.entered-4.result ∷ []) b r k) in
    let w_at : ℕ → ℕ → ℕ = λ r k. slice_index (word_in w (4 * 0 + k)) r in
    let x : ℕ → ℕ → ℕ = λ r k. lane_in c.args.rows b r k in
    let key_at : ℕ → ℕ → ℕ = λ r k. from_tower (lane_in c.args.key b r k) in
    let col : (k : ℕ) → k < 4 → key_at 0 k ≡ w_at 0 k → key_at 1 k ≡ w_at 1 k → key_at 2 k ≡ w_at 2 k → key_at 3 k ≡ w_at 3 k
    → Column f (λ r k. bit_xor (x r k) (w_at r k)) k
    = λ k lk k0 k1 k2 k3.
    let l = 4 * b + k in
    let lt : l < 16 = omega arith in
    record {
      first = c.entered.ensures l lt ∙ ap (bit_xor (x 0 k)) k0;
      second = c.entered-2.ensures l lt ∙ ap (bit_xor (x 1 k)) k1;
      third = c.entered-3.ensures l lt ∙ ap (bit_xor (x 2 k)) k2;
      fourth = c.entered-4.ensures l lt ∙ ap (bit_xor (x 3 k)) k3;
    } in
    columns f (λ r k. bit_xor (x r k) (w_at r k))
    (col 0 (omega arith) (ap (λ t. get_or t 0 0) key) (ap (λ t. get_or t 1 0) key) (ap (λ t. get_or t 2 0) key) (ap (λ t. get_or t 3 0) key))
    (col 1 (omega arith) (ap (λ t. get_or t 4 0) key) (ap (λ t. get_or t 5 0) key) (ap (λ t. get_or t 6 0) key) (ap (λ t. get_or t 7 0) key))
    (col 2 (omega arith) (ap (λ t. get_or t 8 0) key) (ap (λ t. get_or t 9 0) key) (ap (λ t. get_or t 10 0) key) (ap (λ t. get_or t 11 0) key))
    (col 3 (omega arith) (ap (λ t. get_or t 12 0) key) (ap (λ t. get_or t 13 0) key) (ap (λ t. get_or t 14 0) key) (ap (λ t. get_or t 15 0) key))
