use Rattle.ov_surface.proofs.CoatLaws.{coated-coated}
use Rattle.ov_surface.proofs.laws.coats_come_off.Goals as goal

pub returns : goal.returns
returns c = coated-coated
