use Rattle.ov_surface.proofs.CoatLaws.{both_come_off}
use Rattle.ov_surface.proofs.laws.both_come_off.Goals as goal

pub returns : goal.returns
returns c = both_come_off
