use Rattle.ov_host.proofs.Accepting.{sessions_reach}
use Rattle.ov_host.proofs.laws.accepted_updates_lead.Goals as goal

pub returns : goal.returns
returns g c = λ start v w sessions list here f.
    sessions_reach g.V.Answerer.tells g.L.Source.tells g.L.Sink.tells start v sessions w list here f
