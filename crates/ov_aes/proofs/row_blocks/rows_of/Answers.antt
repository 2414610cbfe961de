-- Each row, from the places of two shuffles.
use Rattle.std.proofs.Common.{◌≡◌, ℕ, List, [], ◌∷◌, ◌++◌, get_or, ◌∙◌}
use lib.Lanes.{pick_l}
use Rattle.ov_aes.specs.Rows.{block_in}
use Rattle.ov_aes.proofs.RowLanes.{below_four, picked, row_in, spell16}
use Rattle.ov_aes.proofs.row_blocks.rows_of.Goals as goal

abbrev first_two : List ℕ
first_two = 0 ∷ 4 ∷ 8 ∷ 12 ∷ 16 ∷ 20 ∷ 24 ∷ 28 ∷ 1 ∷ 5 ∷ 9 ∷ 13 ∷ 17 ∷ 21 ∷ 25 ∷ 29 ∷ []

abbrev last_two : List ℕ
last_two = 2 ∷ 6 ∷ 10 ∷ 14 ∷ 18 ∷ 22 ∷ 26 ∷ 30 ∷ 3 ∷ 7 ∷ 11 ∷ 15 ∷ 19 ∷ 23 ∷ 27 ∷ 31 ∷ []

abbrev low_half : List ℕ
low_half = 0 ∷ 1 ∷ 2 ∷ 3 ∷ 4 ∷ 5 ∷ 6 ∷ 7 ∷ 16 ∷ 17 ∷ 18 ∷ 19 ∷ 20 ∷ 21 ∷ 22 ∷ 23 ∷ []

abbrev high_half : List ℕ
high_half = 8 ∷ 9 ∷ 10 ∷ 11 ∷ 12 ∷ 13 ∷ 14 ∷ 15 ∷ 24 ∷ 25 ∷ 26 ∷ 27 ∷ 28 ∷ 29 ∷ 30 ∷ 31 ∷ []

pub returns : goal.returns
returns c n lt =
    let a = c.args.a.now in
    let b = c.args.b.now in
    let x = c.args.c.now in
    let y = c.args.d.now in
    let blocks = a ∷ b ∷ x ∷ y ∷ [] in
    let e = picked a b first_two c.told-a in
    let f = picked a b last_two c.told-a in
    let g = picked x y first_two c.told-c in
    let h = picked x y last_two c.told-c in
    let rows : block_in (pick_l 0 (pick_l 0 (a ++ b) first_two ++ pick_l 0 (x ++ y) first_two) low_half
    ∷ pick_l 0 (pick_l 0 (a ++ b) first_two ++ pick_l 0 (x ++ y) first_two) high_half
    ∷ pick_l 0 (pick_l 0 (a ++ b) last_two ++ pick_l 0 (x ++ y) last_two) low_half
    ∷ pick_l 0 (pick_l 0 (a ++ b) last_two ++ pick_l 0 (x ++ y) last_two) high_half ∷ []) n
    ≡ block_in (row_in blocks 0 ∷ row_in blocks 1 ∷ row_in blocks 2 ∷ row_in blocks 3 ∷ []) n
    = λ i. block_in (pick_l 0 (e i ++ g i) low_half ∷ pick_l 0 (e i ++ g i) high_half ∷ pick_l 0 (f i ++ h i) low_half ∷ pick_l 0 (f i ++ h i) high_half ∷ []) n in
    rows ∙ below_four (λ m. block_in (row_in blocks 0 ∷ row_in blocks 1 ∷ row_in blocks 2 ∷ row_in blocks 3 ∷ []) m ≡ get_or blocks m [])
    (spell16 a c.told-a) (spell16 b c.told-b) (spell16 x c.told-c) (spell16 y c.told-d) n lt
