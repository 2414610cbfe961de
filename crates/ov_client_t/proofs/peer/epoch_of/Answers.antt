use Rattle.ov_wire.specs.declared.request.Request.TheVariants.{Hello}
use Rattle.ov_peer.proofs.Calling.{told_by}
use Rattle.ov_client_t.proofs.peer.epoch_of.Goals as goal

pub returns-in-Ok-clause-told : goal.returns-in-Ok-clause-told
returns-in-Ok-clause-told g c = λ v serves.
    told_by g.P.Peer.tells c.exchange.new.peer v c.in-Ok.answer c.epoch_in.result
    (c.asks_are_told.ensures.exchanges c.args.peer.now c.exchange.new.peer Hello c.in-Ok.answer v
    c.in-Ok.ensures.form c.in-Ok.ensures.exchanges serves)
    c.epoch_in.ensures.welcome
