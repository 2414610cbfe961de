use Rattle.ov_acts.proofs.Completing.{complete}
use Rattle.ov_acts.proofs.Sources.{needs_keys}
use Rattle.ov_acts.proofs.acting.act.Goals as goal

pub returns-clause-keys : goal.returns-clause-keys
returns-clause-keys g c =
    needs_keys g.P.Peer.tells c.args.job.now.act (g.K.Source.tells.left c.args.keys.now)
    (g.B.Source.tells.left c.args.body.now) c.args.peer.now c.perform-outcome.new.peer
    c.perform-outcome.result (g.O.Sink.tells.written c.args.out.now) (g.O.Sink.tells.written c.finish.new.out)
    c.finish.result c.perform-outcome.ensures.acts c.finish.ensures.puts

pub returns-clause-complete : goal.returns-clause-complete
returns-clause-complete g c =
    complete g.P.Peer.tells c.args.peer.now
    c.perform-outcome.new.peer c.perform-outcome.result (g.O.Sink.tells.written c.args.out.now)
    (g.O.Sink.tells.written c.finish.new.out) c.finish.result c.args.job.now.act
    (g.K.Source.tells.left c.args.keys.now) (g.B.Source.tells.left c.args.body.now) c.known_names.ensures
    c.perform-outcome.ensures.acts c.finish.ensures.puts
