use Rattle.std.proofs.Common.{bit_and, bit_xor}
use Rattle.ov_aes.proofs.RowLanes.{self_at}
use Rattle.ov_aes.proofs.Vectors.{zip_at}
use Rattle.ov_aes.proofs.weights.chosen.Goals as goal

pub returns : goal.returns
returns c l lt =
    (zip_at bit_xor lt
    (zip_at bit_and lt (self_at c.args.once l c.fits-once) (self_at c.args.odd l c.fits-odd))
    (zip_at bit_and lt (self_at c.args.twice l c.fits-twice) (self_at c.args.high l c.fits-high))).is
