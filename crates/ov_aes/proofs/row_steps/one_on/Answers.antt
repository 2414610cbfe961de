use Rattle.ov_aes.proofs.RowLanes.{turned}
use Rattle.std.proofs.Common.{◌∷◌, [], refl}
use Rattle.ov_aes.proofs.row_steps.one_on.Goals as goal

pub returns : goal.returns
returns c b k lb lk = turned 1 c.args.row (1 ∷ 2 ∷ 3 ∷ 0 ∷ 5 ∷ 6 ∷ 7 ∷ 4 ∷ 9 ∷ 10 ∷ 11 ∷ 8 ∷ 13 ∷ 14 ∷ 15 ∷ 12 ∷ []) c.fits-row.0 refl refl b k lb lk
