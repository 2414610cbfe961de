use Rattle.ov_server.proofs.Alone.{are_alone}
use Rattle.ov_server.proofs.laws.asks_are_alone.Goals as goal

pub returns : goal.returns
returns g c = are_alone g.D.Disk.tells
