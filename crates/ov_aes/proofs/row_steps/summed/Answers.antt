use Rattle.std.proofs.Common.{◌∙◌, ap}
use Rattle.ov_aes.specs.Tower.{from_tower}
use Rattle.ov_aes.proofs.Linear.{from_tower-sum5}
use Rattle.ov_aes.proofs.RowLanes.{lane_lt, lane_sum5}
use Rattle.ov_aes.proofs.row_steps.summed.Goals as goal

pub returns : goal.returns
returns c l lt =
    ap from_tower (lane_sum5 c.args.a c.args.b c.args.c c.args.d c.args.key l c.fits-a c.fits-b c.fits-c c.fits-d c.fits-key lt)
    ∙ from_tower-sum5 _ _ _ _ _ (lane_lt c.args.a l c.fits-a lt) (lane_lt c.args.b l c.fits-b lt) (lane_lt c.args.c l c.fits-c lt)
    (lane_lt c.args.d l c.fits-d lt) (lane_lt c.args.key l c.fits-key lt)
