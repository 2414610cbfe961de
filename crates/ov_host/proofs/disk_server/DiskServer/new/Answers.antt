use Rattle.ov_server.proofs.Following.{reached_at_once, served_now}
use Rattle.ov_host.proofs.Lasting.{begins}
use Rattle.ov_host.proofs.disk_server.DiskServer.new.Goals as goal

pub returns-clause-begins : goal.returns-clause-begins
returns-clause-begins g c =
    begins g.D.Disk.tells _ (reached_at_once _ (served_now g.D.Disk.tells _ c.known.ensures.0 c.known.ensures.1))
