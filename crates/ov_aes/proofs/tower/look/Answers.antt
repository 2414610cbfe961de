use Rattle.ov_aes.proofs.Vectors.{swizzle_ok, looked_up}
use Rattle.ov_aes.proofs.tower.look.Goals as goal

pub swizzle : goal.swizzle
swizzle c = swizzle_ok c.args.at c.fits-at.0 c.requires

pub returns : goal.returns
returns c = looked_up c.args.table c.args.at c.fits-at.0
