use Rattle.std.proofs.Common.{[], subst, sym}
use Rattle.ov_server.specs.Answering.{serving_of}
use Rattle.ov_server.specs.Following.{Reaches}
use Rattle.ov_store.specs.Opened.{Opened}
use Rattle.ov_host.specs.Lasting.{StoreGoesOn}
use Rattle.ov_host.proofs.Lasting.{begins}
use Rattle.ov_host.proofs.disk_server.DiskServerAnswerer.epoch.Goals as goal

pub returns-clause-begins : goal.returns-clause-begins
returns-clause-begins g c =
    subst (λ (s : Opened g.row.D.Denot). StoreGoesOn g.D.Disk.tells s [] s) c.self.view_is
    (begins g.D.Disk.tells _ c.epoch.ensures.begins)

pub returns-clause-counts : goal.returns-clause-counts
returns-clause-counts g c = λ start list before.
    c.epoch.ensures.counts start list
    (subst (λ (s : Opened g.row.D.Denot). Reaches (serving_of start) list (serving_of s))
    (sym c.self.view_is) before.reaches)
