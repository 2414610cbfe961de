use Rattle.std.proofs.Common.{◌∙◌, ap, bit_xor, get_or}
use Rattle.ov_aes.specs.Tower.{from_tower, into_tower}
use Rattle.ov_aes.proofs.Linear.{from_into, from_tower-xor, into_tower-lt}
use Rattle.ov_aes.proofs.RowLanes.{lane_lt, lane_map_xor}
use Rattle.ov_aes.proofs.row_steps.entered.Goals as goal

pub returns : goal.returns
returns c l lt =
    let x = lane_lt c.args.row l c.fits-row lt in
    ap from_tower (lane_map_xor into_tower c.args.row _ c.args.key l c.enter.ensures c.fits-row c.fits-key lt)
    ∙ from_tower-xor _ _ (into_tower-lt _ x) (lane_lt c.args.key l c.fits-key lt)
    ∙ ap (λ t. bit_xor t (from_tower (get_or c.args.key l 0))) (from_into _ x)
