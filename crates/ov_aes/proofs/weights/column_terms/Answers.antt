use Rattle.std.proofs.Common.{◌≡◌, ◌+◌, ◌*◌, ◌<◌, ◌∙◌, [], ◌∷◌, ap, arith, bit_and, bit_xor, get_or}
use Rattle.ov_aes.specs.Fronts.{row_for, weighed, weight}
use Rattle.ov_aes.specs.Rows.{lane_in}
use Rattle.ov_aes.specs.Tower.{from_tower, one_of, two_of}
use Rattle.ov_aes.proofs.RowLanes.{below_four, lane_lt, lane_map}
use Rattle.ov_aes.proofs.WeightBytes.{picked_of, weight_1, weight_2, weight_3}
use Rattle.ov_aes.proofs.weights.column_terms.Goals as goal

pub returns : goal.returns
returns c b r k lb lr lk =
    let l = 4 * b + k in
    let lt : l < 16 = omega arith in
    let v = get_or c.args.column l 0 in
    let lv = lane_lt c.args.column l c.fits-column lt in
    let one = lane_map one_of c.args.column _ l (ap (λ t. t.0) c.within.ensures) c.fits-column lt in
    let two = lane_map two_of c.args.column _ l (ap (λ t. t.1) c.within.ensures) c.fits-column lt in
    let w1 = weight_1 v lv in
    let w2 = weight_2 v lv in
    let w3 = weight_3 v lv in
    let odd0 = c.each_block.ensures b k lb lk in
    let high0 = c.each_block-2.ensures b k lb lk in
    let odd1 = c.each_block-3.ensures b k lb lk in
    let high1 = c.each_block-4.ensures b k lb lk in
    let odd2 = c.each_block-5.ensures b k lb lk in
    let high2 = c.each_block-6.ensures b k lb lk in
    let odd3 = c.each_block-7.ensures b k lb lk in
    let high3 = c.each_block-8.ensures b k lb lk in
    below_four (λ n. from_tower (lane_in (c.chosen.result ∷ c.chosen-2.result ∷ c.chosen-3.result ∷ c.chosen-4.result ∷ []) b n k)
    ≡ weighed (weight n (row_for k)) (from_tower v))
    (ap from_tower (c.chosen.ensures l lt ∙ (λ i. bit_xor (bit_and (one i) (odd0 i)) (bit_and (two i) (high0 i))))
    ∙ below_four (λ n. from_tower (picked_of (get_or (0 ∷ 255 ∷ 255 ∷ 255 ∷ []) n 0) (get_or (255 ∷ 0 ∷ 0 ∷ 255 ∷ []) n 0) v) ≡ weighed (weight 0 (row_for n)) (from_tower v))
    w2 w1 w1 w3 k lk)
    (ap from_tower (c.chosen-2.ensures l lt ∙ (λ i. bit_xor (bit_and (one i) (odd1 i)) (bit_and (two i) (high1 i))))
    ∙ below_four (λ n. from_tower (picked_of (get_or (255 ∷ 255 ∷ 255 ∷ 0 ∷ []) n 0) (get_or (0 ∷ 0 ∷ 255 ∷ 255 ∷ []) n 0) v) ≡ weighed (weight 1 (row_for n)) (from_tower v))
    w1 w1 w3 w2 k lk)
    (ap from_tower (c.chosen-3.ensures l lt ∙ (λ i. bit_xor (bit_and (one i) (odd2 i)) (bit_and (two i) (high2 i))))
    ∙ below_four (λ n. from_tower (picked_of (get_or (255 ∷ 255 ∷ 0 ∷ 255 ∷ []) n 0) (get_or (0 ∷ 255 ∷ 255 ∷ 0 ∷ []) n 0) v) ≡ weighed (weight 2 (row_for n)) (from_tower v))
    w1 w3 w2 w1 k lk)
    (ap from_tower (c.chosen-4.ensures l lt ∙ (λ i. bit_xor (bit_and (one i) (odd3 i)) (bit_and (two i) (high3 i))))
    ∙ below_four (λ n. from_tower (picked_of (get_or (255 ∷ 0 ∷ 255 ∷ 255 ∷ []) n 0) (get_or (255 ∷ 255 ∷ 0 ∷ 0 ∷ []) n 0) v) ≡ weighed (weight 3 (row_for n)) (from_tower v))
    w3 w2 w1 w1 k lk)
    r lr
