use Rattle.ov_surface.proofs.CoatLaws.{length-coated}
use Rattle.ov_surface.proofs.laws.coats_keep_length.Goals as goal

pub returns : goal.returns
returns c = length-coated
