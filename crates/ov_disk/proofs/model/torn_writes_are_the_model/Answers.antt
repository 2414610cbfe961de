use Rattle.ov_disk.proofs.Unordered.{by_the_model, by_the_writes}
use Rattle.ov_disk.proofs.model.torn_writes_are_the_model.Goals as goal

pub returns : goal.returns
returns c ws i d fit = (by_the_model ws i d, λ may. by_the_writes ws i d fit may.0 may.1)
