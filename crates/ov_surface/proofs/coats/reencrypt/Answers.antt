use Rattle.ov_surface.proofs.CoatLaws.{recoated}
use Rattle.ov_surface.proofs.coats.reencrypt.Goals as goal

pub returns-clause-stored : goal.returns-clause-stored
returns-clause-stored c text is = recoated _ _ _ _ _ _ _ text c.coat.ensures c.coat-2.ensures is
