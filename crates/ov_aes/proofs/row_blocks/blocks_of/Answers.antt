-- Each block, from the places of two shuffles.
use Rattle.std.proofs.Common.{◌≡◌, ℕ, List, [], ◌∷◌, ◌++◌, get_or}
use lib.Lanes.{pick_l}
use Rattle.ov_aes.specs.Rows.{block_in}
use Rattle.ov_aes.proofs.RowLanes.{below_four, picked}
use Rattle.ov_aes.proofs.row_blocks.blocks_of.Goals as goal

abbrev low_bytes : List ℕ
low_bytes = 0 ∷ 16 ∷ 1 ∷ 17 ∷ 2 ∷ 18 ∷ 3 ∷ 19 ∷ 4 ∷ 20 ∷ 5 ∷ 21 ∷ 6 ∷ 22 ∷ 7 ∷ 23 ∷ []

abbrev high_bytes : List ℕ
high_bytes = 8 ∷ 24 ∷ 9 ∷ 25 ∷ 10 ∷ 26 ∷ 11 ∷ 27 ∷ 12 ∷ 28 ∷ 13 ∷ 29 ∷ 14 ∷ 30 ∷ 15 ∷ 31 ∷ []

abbrev low_pairs : List ℕ
low_pairs = 0 ∷ 1 ∷ 16 ∷ 17 ∷ 2 ∷ 3 ∷ 18 ∷ 19 ∷ 4 ∷ 5 ∷ 20 ∷ 21 ∷ 6 ∷ 7 ∷ 22 ∷ 23 ∷ []

abbrev high_pairs : List ℕ
high_pairs = 8 ∷ 9 ∷ 24 ∷ 25 ∷ 10 ∷ 11 ∷ 26 ∷ 27 ∷ 12 ∷ 13 ∷ 28 ∷ 29 ∷ 14 ∷ 15 ∷ 30 ∷ 31 ∷ []

pub returns : goal.returns
returns c n lt =
    let x = c.args.x in
    let y = c.args.y in
    let z = c.args.z in
    let t = c.args.t in
    let e = picked x y low_bytes c.fits-x.0 in
    let f = picked x y high_bytes c.fits-x.0 in
    let g = picked z t low_bytes c.fits-z.0 in
    let h = picked z t high_bytes c.fits-z.0 in
    let eg = pick_l 0 (x ++ y) low_bytes ++ pick_l 0 (z ++ t) low_bytes in
    let fh = pick_l 0 (x ++ y) high_bytes ++ pick_l 0 (z ++ t) high_bytes in
    below_four (λ m. get_or (pick_l 0 eg low_pairs ∷ pick_l 0 eg high_pairs ∷ pick_l 0 fh low_pairs ∷ pick_l 0 fh high_pairs ∷ []) m []
    ≡ block_in (x ∷ y ∷ z ∷ t ∷ []) m)
    (λ i. pick_l 0 (e i ++ g i) low_pairs) (λ i. pick_l 0 (e i ++ g i) high_pairs) (λ i. pick_l 0 (f i ++ h i) low_pairs) (λ i. pick_l 0 (f i ++ h i) high_pairs) n lt
