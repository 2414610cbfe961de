use Rattle.std.proofs.Common.{◌*◌, sym, ◌∙◌, ap}
use Rattle.ov_graph.specs.declared.cover.Cover.{Cover}
use Rattle.ov_state.proofs.NewPlaces.{fresh_holders}
use Rattle.ov_state.proofs.state.State.holders_then.Goals as goal

pub returns-then-cover : goal.returns-then-cover
returns-then-cover g c =
    c.copy.ensures
    ∙ sym (fresh_holders (64 * g.row.W) c.args.self.now.catalogue c.args.list.now c.known.ensures
    (sym (ap (λ (cover : Cover). cover.fresh) c.requires) ∙ c.if-cover.true))
