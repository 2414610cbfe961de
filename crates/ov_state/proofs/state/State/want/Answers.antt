use Rattle.std.proofs.Common.{ℕ, length, sym, ◌∙◌, ap, subst}
use Rattle.std.specs.Prelude.{Option, IfSome}
use Rattle.ov_base.specs.Sets.{IsBelow}
use Rattle.ov_graph.specs.Reach.{IsRooted}
use Rattle.ov_history.specs.Layers.{holders, set_or}
use Rattle.ov_history.specs.Catalogue.{outline}
use Rattle.ov_state.proofs.WantedSets.{list_below, want_rooted}
use Rattle.ov_state.proofs.state.State.want.Goals as goal

pub returns-clause-rooted : goal.returns-clause-rooted
returns-clause-rooted g c =
    let s = c.args.self.now.catalogue in
    let f = c.args.entry.now in
    let held = c.requires.relisting.before ∙ ap (λ n. holders (outline s) n) (sym c.requires.node) in
    let list = c.list_or.ensures ∙ ap (λ h. set_or s.surface.sets f.surface h) held in
    let below = list_below s _ c.known.ensures.sound c.requires.placed in
    subst (λ (o : Option ℕ). IfSome o (IsRooted s.surface.sets)) (sym c.wanted-2.ensures)
    (want_rooted s c.self.inside.mode c.list_or.result c.args.relisting.now.after c.known.ensures.sound
    (subst (λ set. IsBelow (length s.users) set) (sym list) below))
