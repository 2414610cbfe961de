-- Each column of a block, from its four rows.
use Rattle.std.proofs.Common.{◌≡◌, ℕ, ◌+◌, ◌*◌, ◌%◌, ◌<◌, [], ◌∷◌, bit_xor, get_or, ◌∙◌, ap, arith, refl, slice_index}
use Rattle.ov_aes.specs.Cipher.{full_round, sbox}
use Rattle.ov_aes.specs.Field.{times}
use Rattle.ov_aes.specs.Rows.{lane_in}
use Rattle.ov_aes.specs.State.{word_in}
use Rattle.ov_aes.specs.Tower.{from_tower}
use Rattle.ov_aes.proofs.RowRounds.{Column, Offset, columns, mixed_at, summed_to}
use Rattle.ov_aes.proofs.row_rounds.round.Goals as goal

pub returns : goal.returns
unfolding full_round
returns c b n w lb key =
    let f : ℕ → ℕ → ℕ = λ r k. from_tower (lane_in (c.summed.result ∷ c.summed-2.result ∷ c.summed-3.result ∷ c.summed-4.result ∷ []) b r k) in
    let s : ℕ → ℕ → ℕ = λ r k. sbox (from_tower (lane_in c.args.rows b r k)) in
    let w_at : ℕ → ℕ → ℕ = λ r k. slice_index (word_in w (4 * n + k)) r in
    let key_at : ℕ → ℕ → ℕ = λ r k. from_tower (lane_in c.args.key b r k) in
    let once : ℕ → ℕ = λ v. bit_xor (sbox (from_tower v)) 0x63 in
    let twice : ℕ → ℕ = λ v. bit_xor (times 2 (sbox (from_tower v))) 0xc6 in
    let thrice : ℕ → ℕ = λ v. bit_xor (times 3 (sbox (from_tower v))) 0xa5 in
    let col : (k : ℕ) → k < 4 → key_at 0 k ≡ bit_xor (w_at 0 k) 0x63 → key_at 1 k ≡ bit_xor (w_at 1 k) 0x63
    → key_at 2 k ≡ bit_xor (w_at 2 k) 0x63 → key_at 3 k ≡ bit_xor (w_at 3 k) 0x63 → Column f (mixed_at s w_at) k
    = λ k lk k0 k1 k2 k3.
    let l = 4 * b + k in
    let lt : l < 16 = omega arith in
    let y = c.one_on.ensures b k lb lk in
    let z = c.two_on.ensures b k lb lk in
    let t = c.three_on.ensures b k lb lk in
    let x1 : Offset _ (s 0 k) 0x63 = record { is = c.substituted.ensures.once l lt } in
    let x2 : Offset _ (times 2 (s 0 k)) 0xc6 = record { is = c.substituted.ensures.twice l lt } in
    let x3 : Offset _ (times 3 (s 0 k)) 0xa5 = record { is = c.substituted.ensures.thrice l lt } in
    let y1 : Offset _ (s 1 ((k + 1) % 4)) 0x63 = record { is = c.substituted-2.ensures.once l lt ∙ ap once y } in
    let y2 : Offset _ (times 2 (s 1 ((k + 1) % 4))) 0xc6 = record { is = c.substituted-2.ensures.twice l lt ∙ ap twice y } in
    let y3 : Offset _ (times 3 (s 1 ((k + 1) % 4))) 0xa5 = record { is = c.substituted-2.ensures.thrice l lt ∙ ap thrice y } in
    let z1 : Offset _ (s 2 ((k + 2) % 4)) 0x63 = record { is = c.substituted-3.ensures.once l lt ∙ ap once z } in
    let z2 : Offset _ (times 2 (s 2 ((k + 2) % 4))) 0xc6 = record { is = c.substituted-3.ensures.twice l lt ∙ ap twice z } in
    let z3 : Offset _ (times 3 (s 2 ((k + 2) % 4))) 0xa5 = record { is = c.substituted-3.ensures.thrice l lt ∙ ap thrice z } in
    let t1 : Offset _ (s 3 ((k + 3) % 4)) 0x63 = record { is = c.substituted-4.ensures.once l lt ∙ ap once t } in
    let t2 : Offset _ (times 2 (s 3 ((k + 3) % 4))) 0xc6 = record { is = c.substituted-4.ensures.twice l lt ∙ ap twice t } in
    let t3 : Offset _ (times 3 (s 3 ((k + 3) % 4))) 0xa5 = record { is = c.substituted-4.ensures.thrice l lt ∙ ap thrice t } in
    let key0 : Offset _ (w_at 0 k) 0x63 = record { is = k0 } in
    let key1 : Offset _ (w_at 1 k) 0x63 = record { is = k1 } in
    let key2 : Offset _ (w_at 2 k) 0x63 = record { is = k2 } in
    let key3 : Offset _ (w_at 3 k) 0x63 = record { is = k3 } in
    record {
      first = summed_to (c.summed.ensures l lt) x2 y3 z1 t1 key0 refl;
      second = summed_to (c.summed-2.ensures l lt) x1 y2 z3 t1 key1 refl;
      third = summed_to (c.summed-3.ensures l lt) x1 y1 z2 t3 key2 refl;
      fourth = summed_to (c.summed-4.ensures l lt) x3 y1 z1 t2 key3 refl;
    } in
    columns f (mixed_at s w_at)
    (col 0 (omega arith) (ap (λ t. get_or t 0 0) key) (ap (λ t. get_or t 1 0) key) (ap (λ t. get_or t 2 0) key) (ap (λ t. get_or t 3 0) key))
    (col 1 (omega arith) (ap (λ t. get_or t 4 0) key) (ap (λ t. get_or t 5 0) key) (ap (λ t. get_or t 6 0) key) (ap (λ t. get_or t 7 0) key))
    (col 2 (omega arith) (ap (λ t. get_or t 8 0) key) (ap (λ t. get_or t 9 0) key) (ap (λ t. get_or t 10 0) key) (ap (λ t. get_or t 11 0) key))
    (col 3 (omega arith) (ap (λ t. get_or t 12 0) key) (ap (λ t. get_or t 13 0) key) (ap (λ t. get_or t 14 0) key) (ap (λ t. get_or t 15 0) key))
