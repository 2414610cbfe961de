use Rattle.std.proofs.Common.{◌∙◌, ap}
use Rattle.ov_aes.specs.Tower.{from_tower}
use Rattle.ov_aes.proofs.Linear.{from_tower-xor}
use Rattle.ov_aes.proofs.RowLanes.{lane_lt, self_at}
use Rattle.ov_aes.proofs.Vectors.{xor_at}
use Rattle.ov_aes.proofs.weights.added.Goals as goal

pub returns : goal.returns
returns c l lt =
    ap from_tower (xor_at lt (self_at c.args.a l c.fits-a) (self_at c.args.b l c.fits-b)).is
    ∙ from_tower-xor _ _ (lane_lt c.args.a l c.fits-a lt) (lane_lt c.args.b l c.fits-b lt)
