-- The terms of the last byte, and then those of the first column.
use Rattle.std.proofs.Common.{◌≡◌, ℕ, ◌+◌, ◌*◌, ◌<◌, ◌∙◌, ap, arith, bit_xor, get_or, slice_index, sym}
use Rattle.ov_aes.specs.Cipher.{rounds}
use Rattle.ov_aes.specs.Fronts.{row_for, weighed, weight, with_last}
use Rattle.ov_aes.specs.Rows.{lane_in}
use Rattle.ov_aes.specs.State.{byte_in, word_in}
use Rattle.ov_aes.specs.Tower.{from_tower}
use Rattle.ov_aes.proofs.Changes.{by_bytes, round_by_bytes, with_last-1, with_last-2}
use Rattle.ov_aes.proofs.front.Front.started.Goals as goal

pub returns : goal.returns
returns c w block b x front lb same =
    let key = slice_index (word_in w 3) 3 in
    let last : (k : ℕ) → k < 4 → from_tower (get_or c.entered.result (4 * b + k) 0) ≡ bit_xor x key
    = λ k lk. c.entered.ensures (4 * b + k) (omega arith) ∙ (λ i. bit_xor (same k lk i) (front.last b k lb lk i)) in
    let column : (k : ℕ) → k < 4 → from_tower (get_or c.added-column.result (4 * b + k) 0) ≡ byte_in (rounds w (with_last block x) 1) (row_for k) 0
    = λ k lk. c.added-column.ensures (4 * b + k) (omega arith)
    ∙ (λ i. bit_xor (front.column b k lb lk i) ((c.last_terms.ensures b k lb lk ∙ ap (weighed (weight (row_for k) 3)) (last k lk)) i))
    ∙ sym (with_last-1 w block x (row_for k) (omega arith)) in
    by_bytes (λ r k. from_tower (lane_in c.added_rows.result b r k)) (λ r k. byte_in (rounds w (with_last block x) 2) r k)
    (λ r k lr lk. c.added_rows.ensures b r k lb lr lk
    ∙ (λ i. bit_xor (front.rows b r k lb lr lk i) ((c.column_terms.ensures b r k lb lr lk ∙ ap (weighed (weight r (row_for k))) (column k lk)) i))
    ∙ sym (with_last-2 w block x r k lr lk))
    ∙ round_by_bytes w (with_last block x)
