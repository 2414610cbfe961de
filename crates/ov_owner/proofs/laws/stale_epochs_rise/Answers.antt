use Rattle.ov_owner.proofs.Rising.{stale_epochs_rise}
use Rattle.ov_owner.proofs.laws.stale_epochs_rise.Goals as goal

pub returns : goal.returns
returns c = stale_epochs_rise
