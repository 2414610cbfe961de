use Rattle.std.proofs.Common.{◌∙◌, List, ℕ, subst}
use Rattle.ov_wire.specs.declared.request.Request.TheVariants.{Update}
use Rattle.ov_peer.specs.Exchanges.{AreReadAlike}
use Rattle.ov_peer.proofs.asking.exchange_update.Goals as goal

pub returns-in-Ok-Ok-clause-exchanges : goal.returns-in-Ok-Ok-clause-exchanges
returns-in-Ok-Ok-clause-exchanges g c =
    c.ask.ensures.exchanges (Update c.args.epoch c.args.spelling c.args.tag.now) (c.deref.ensures.value ∙ c.in-Ok-Ok.ensures.ok)
    (subst (λ (spelling : List ℕ). AreReadAlike (Update c.args.epoch spelling c.args.tag.now) c.in-Ok-Ok.request) c.as_slice.ensures
    (rw c.in-Ok-Ok.is-0 at c.alike-alike.ensures))
