use Rattle.ov_host.proofs.Surviving.{survives_from}
use Rattle.ov_host.proofs.laws.stores_survive.Goals as goal

pub returns : goal.returns
returns g c = survives_from g.D.Disk.tells
