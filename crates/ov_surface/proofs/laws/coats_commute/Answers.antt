use Rattle.ov_surface.proofs.CoatLaws.{base_coat-coated}
use Rattle.ov_surface.proofs.laws.coats_commute.Goals as goal

pub returns : goal.returns
returns c = base_coat-coated
