use Rattle.ov_peer.specs.Traced.{traced_tells}
use Rattle.ov_machine.proofs.KeptLoans.{asks_keep}
use Rattle.ov_machine.proofs.kept_loans.change.Goals as goal

pub returns-clause-lent : goal.returns-clause-lent
returns-clause-lent g c =
    asks_keep (traced_tells g.P.Peer.tells g.T.Sink.tells)
    (λ p. g.T.Sink.tells.borrow p.sink) (λ p q request reply a. a.1) (λ p q request f. f.1)
    c.change.ensures.runs.asks c.change.ensures.runs.unanswered c.args.peer.now c.change.new.peer c.change.ensures.runs.are_asks
