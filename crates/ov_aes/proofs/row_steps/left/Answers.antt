use Rattle.std.proofs.Common.{◌∙◌, ap, bit_xor, get_or}
use Rattle.ov_aes.specs.Tower.{out_of_tower}
use Rattle.ov_aes.proofs.Linear.{left}
use Rattle.ov_aes.proofs.RowLanes.{lane_lt, lane_map_xor}
use Rattle.ov_aes.proofs.row_steps.left.Goals as goal

pub returns : goal.returns
returns c l lt =
    lane_map_xor out_of_tower c.args.row _ c.args.key l c.leave.ensures c.fits-row c.fits-key lt
    ∙ ap (λ t. bit_xor t (get_or c.args.key l 0)) (left _ (lane_lt c.args.row l c.fits-row lt))
