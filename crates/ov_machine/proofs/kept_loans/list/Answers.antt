use Rattle.ov_wire.specs.declared.request.Request.TheVariants.{List as ListNames}
use Rattle.ov_owner.specs.Questions.{names_in}
use Rattle.ov_peer.specs.Traced.{traced_tells}
use Rattle.ov_machine.proofs.KeptLoans.{once_keeps}
use Rattle.ov_machine.proofs.kept_loans.list.Goals as goal

pub returns-clause-lent : goal.returns-clause-lent
returns-clause-lent g c =
    once_keeps (traced_tells g.P.Peer.tells g.T.Sink.tells)
    (λ p. g.T.Sink.tells.borrow p.sink) (λ p q request reply a. a.1) (λ p q request f. f.1)
    (ListNames c.args.file.now) names_in c.list.result c.args.peer.now c.list.new.peer c.list.ensures.asks
