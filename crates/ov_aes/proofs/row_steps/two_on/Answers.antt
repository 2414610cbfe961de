use Rattle.ov_aes.proofs.RowLanes.{turned}
use Rattle.std.proofs.Common.{◌∷◌, [], refl}
use Rattle.ov_aes.proofs.row_steps.two_on.Goals as goal

pub returns : goal.returns
returns c b k lb lk = turned 2 c.args.row (2 ∷ 3 ∷ 0 ∷ 1 ∷ 6 ∷ 7 ∷ 4 ∷ 5 ∷ 10 ∷ 11 ∷ 8 ∷ 9 ∷ 14 ∷ 15 ∷ 12 ∷ 13 ∷ []) c.fits-row.0 refl refl b k lb lk
