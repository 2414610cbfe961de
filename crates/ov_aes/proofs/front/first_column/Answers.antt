-- Each column's byte, from the places of two shuffles.
use Rattle.std.proofs.Common.{◌≡◌, ℕ, ◌+◌, ◌*◌, List, [], ◌∷◌, ◌++◌, get_or, ◌∙◌, refl, map, cond, ltb, ◌-◌}
use lib.Lanes.{pick_l}
use Rattle.ov_aes.specs.Fronts.{row_for}
use Rattle.ov_aes.specs.Rows.{lane_in}
use Rattle.ov_aes.proofs.Changes.{below_fours}
use Rattle.ov_aes.proofs.RowLanes.{picked}
use Rattle.ov_aes.proofs.front.first_column.Goals as goal

abbrev firsts : List ℕ
firsts = 0 ∷ 16 ∷ 0 ∷ 16 ∷ 4 ∷ 20 ∷ 4 ∷ 20 ∷ 8 ∷ 24 ∷ 8 ∷ 24 ∷ 12 ∷ 28 ∷ 12 ∷ 28 ∷ []

abbrev halves : List ℕ
halves = 0 ∷ 1 ∷ 18 ∷ 19 ∷ 4 ∷ 5 ∷ 22 ∷ 23 ∷ 8 ∷ 9 ∷ 26 ∷ 27 ∷ 12 ∷ 13 ∷ 30 ∷ 31 ∷ []

-- what the first shuffles take
abbrev firsts_of : List ℕ → List ℕ → List ℕ
firsts_of a b = map (λ k. cond (ltb k 16) (get_or a k 0) (get_or b (k - 16) 0)) firsts

pub returns : goal.returns
returns c b k lb lk =
    let x = c.args.x in
    let y = c.args.y in
    let z = c.args.z in
    let t = c.args.t in
    let e = picked x t firsts c.fits-x.0 in
    let f = picked z y firsts c.fits-z.0 in
    (λ i. get_or (pick_l 0 (e i ++ f i) halves) (4 * b + k) 0)
    ∙ below_fours (λ n m. get_or (pick_l 0 (firsts_of x t ++ firsts_of z y) halves) (4 * n + m) 0 ≡ lane_in (x ∷ y ∷ z ∷ t ∷ []) n (row_for m) 0)
    refl refl refl refl refl refl refl refl refl refl refl refl refl refl refl refl b k lb lk
