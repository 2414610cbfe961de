use Rattle.std.proofs.Common.{ℕ, ◌∙◌, ap, sym}
use Rattle.std.specs.Prelude.{◌||◌}
use Rattle.ov_history.specs.Catalogue.{outline}
use Rattle.ov_history.specs.Layers.{list_in}
use Rattle.ov_thinning.specs.Notes.{Thinning, differ, list_by, would_be_bare}
use Rattle.ov_tidy.proofs.Files.{ends_all, shown_in}
use Rattle.ov_tidy.proofs.thin.Thin.ends_with.Goals as goal

pub returns : goal.returns
returns c =
    let y = outline c.args.self.now.catalogue in
    let list = shown_in c.self.inside.state.catalogue c.args.self.now.catalogue c.args.file c.list_of.result
    (ap (λ (t : Thinning). t.catalogue) c.self.view_is) c.requires.there c.list_of.ensures in
    ends_all (differ c.args.last.grants c.args.grants) c.args.last.user c.args.user
    (c.args.last.before || would_be_bare y c.args.file (list_by c.args.grants (list_in y c.args.file) c.args.user))
    (c.args.last.after || would_be_bare y c.args.file (list_in y c.args.file)) c.needs_none-2.result
    (sym c.differ.ensures ∙ c.if-not-differ.false)
    c.if-last-user.false
    (sym (c.needs_none.ensures ∙ ap (λ (l : ℕ). c.args.last.before || would_be_bare y c.args.file l) c.list_by.ensures)
    ∙ c.if-not-needs_none.false)
    (c.needs_none-2.ensures ∙ ap (λ (l : ℕ). c.args.last.after || would_be_bare y c.args.file l) list)
