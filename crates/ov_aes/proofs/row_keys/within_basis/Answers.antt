use Rattle.std.proofs.Common.{◌∙◌, ap}
use Rattle.ov_aes.specs.Tower.{from_tower, into_tower}
use Rattle.ov_aes.proofs.Linear.{from_into}
use Rattle.ov_aes.proofs.RowLanes.{lane_lt, lane_map}
use Rattle.ov_aes.proofs.row_keys.within_basis.Goals as goal

pub returns : goal.returns
returns c l lt =
    ap from_tower (lane_map into_tower c.args.row _ l c.enter.ensures c.fits-row lt)
    ∙ from_into _ (lane_lt c.args.row l c.fits-row lt)
