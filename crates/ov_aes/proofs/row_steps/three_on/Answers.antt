use Rattle.ov_aes.proofs.RowLanes.{turned}
use Rattle.std.proofs.Common.{◌∷◌, [], refl}
use Rattle.ov_aes.proofs.row_steps.three_on.Goals as goal

pub returns : goal.returns
returns c b k lb lk = turned 3 c.args.row (3 ∷ 0 ∷ 1 ∷ 2 ∷ 7 ∷ 4 ∷ 5 ∷ 6 ∷ 11 ∷ 8 ∷ 9 ∷ 10 ∷ 15 ∷ 12 ∷ 13 ∷ 14 ∷ []) c.fits-row.0 refl refl b k lb lk
