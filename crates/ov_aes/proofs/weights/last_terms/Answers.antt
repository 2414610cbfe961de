use Rattle.std.proofs.Common.{◌≡◌, ◌+◌, ◌*◌, ◌<◌, ◌∙◌, [], ◌∷◌, ap, arith, bit_and, bit_xor, get_or}
use Rattle.ov_aes.specs.Fronts.{row_for, weighed, weight}
use Rattle.ov_aes.specs.Tower.{from_tower, one_of, two_of}
use Rattle.ov_aes.proofs.RowLanes.{below_four, lane_lt, lane_map}
use Rattle.ov_aes.proofs.WeightBytes.{picked_of, weight_1, weight_2, weight_3}
use Rattle.ov_aes.proofs.weights.last_terms.Goals as goal

pub returns : goal.returns
returns c b k lb lk =
    let l = 4 * b + k in
    let lt : l < 16 = omega arith in
    let v = get_or c.args.last l 0 in
    let lv = lane_lt c.args.last l c.fits-last lt in
    let one = lane_map one_of c.args.last _ l (ap (λ t. t.0) c.within.ensures) c.fits-last lt in
    let two = lane_map two_of c.args.last _ l (ap (λ t. t.1) c.within.ensures) c.fits-last lt in
    let odd = c.each_block.ensures b k lb lk in
    let high = c.each_block-2.ensures b k lb lk in
    ap from_tower (c.chosen.ensures l lt ∙ (λ i. bit_xor (bit_and (one i) (odd i)) (bit_and (two i) (high i))))
    ∙ below_four (λ n. from_tower (picked_of (get_or (255 ∷ 0 ∷ 255 ∷ 255 ∷ []) n 0) (get_or (0 ∷ 255 ∷ 255 ∷ 0 ∷ []) n 0) v) ≡ weighed (weight (row_for n) 3) (from_tower v))
    (weight_1 v lv) (weight_2 v lv) (weight_3 v lv) (weight_1 v lv) k lk
