use Rattle.std.proofs.Common.{ℕ, Bool, ◌∙◌, ap, sym}
use Rattle.ov_base.specs.Sets.{with, without}
use Rattle.ov_history.specs.Catalogue.{outline}
use Rattle.ov_history.specs.Layers.{list_in}
use Rattle.ov_thinning.specs.Notes.{Thinning, list_by}
use Rattle.ov_tidy.proofs.Files.{shown_in}
use Rattle.ov_tidy.proofs.thin.Thin.list_by.Goals as goal

pub returns-then-grants : goal.returns-then-grants
returns-then-grants c =
    c.with.ensures
    ∙ ap (λ (l : ℕ). with l c.args.user)
    (shown_in c.self.inside.state.catalogue c.args.self.now.catalogue c.args.file c.list_of-list.result
    (ap (λ (t : Thinning). t.catalogue) c.self.view_is) c.requires.there c.list_of-list.ensures)
    ∙ sym (ap (λ (b : Bool). list_by b (list_in (outline c.args.self.now.catalogue) c.args.file) c.args.user) c.if-grants.true)

pub returns-else-grants : goal.returns-else-grants
returns-else-grants c =
    c.without.ensures
    ∙ ap (λ (l : ℕ). without l c.args.user)
    (shown_in c.self.inside.state.catalogue c.args.self.now.catalogue c.args.file c.list_of-list.result
    (ap (λ (t : Thinning). t.catalogue) c.self.view_is) c.requires.there c.list_of-list.ensures)
    ∙ sym (ap (λ (b : Bool). list_by b (list_in (outline c.args.self.now.catalogue) c.args.file) c.args.user) c.if-grants.false)
