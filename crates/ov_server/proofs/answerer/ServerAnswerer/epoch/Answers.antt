use Rattle.std.proofs.Common.{◌∙◌, ap}
use Rattle.ov_history.specs.Catalogue.{Catalogue}
use Rattle.ov_store.specs.Opened.{Opened}
use Rattle.ov_server.specs.Answering.{serving_of}
use Rattle.ov_server.proofs.Following.{epoch_reached, reached_at_once, served_now}
use Rattle.ov_server.proofs.answerer.ServerAnswerer.epoch.Goals as goal

pub returns-clause-begins : goal.returns-clause-begins
returns-clause-begins g c =
    reached_at_once (serving_of c.args.self.now)
    (served_now g.D.Disk.tells c.args.self.now c.known.ensures.0 c.known.ensures.1)

pub returns-clause-counts : goal.returns-clause-counts
returns-clause-counts g c =
    λ start list reaches.
    c.epoch.ensures ∙ ap (λ (k : Catalogue). k.epoch) c.state.ensures
    ∙ ap (λ (s : Opened g.row.D.Denot). s.catalogue.epoch) c.self.view_is
    ∙ epoch_reached (serving_of start) (serving_of c.args.self.now) list reaches
