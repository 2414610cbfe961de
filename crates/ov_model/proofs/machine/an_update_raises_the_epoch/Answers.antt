use Rattle.ov_model.proofs.Steps.{an_update_raises_the_epoch}
use Rattle.ov_model.proofs.machine.an_update_raises_the_epoch.Goals as goal

pub returns : goal.returns
returns c = an_update_raises_the_epoch
