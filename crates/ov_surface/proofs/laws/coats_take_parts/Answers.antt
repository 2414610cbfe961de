use Rattle.ov_surface.proofs.CoatLaws.{coated-append}
use Rattle.ov_surface.proofs.laws.coats_take_parts.Goals as goal

pub returns : goal.returns
returns c = coated-append
