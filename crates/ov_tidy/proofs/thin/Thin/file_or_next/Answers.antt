use Rattle.std.proofs.Common.{◌∙◌, sym, ap}
use Rattle.ov_history.specs.Asking.{file_named}
use Rattle.ov_history.specs.Catalogue.{outline}
use Rattle.ov_state.specs.declared.queries.Sizes.{Sizes}
use Rattle.ov_state.proofs.QueryLaws.{length-names}
use Rattle.ov_thinning.specs.Notes.{Thinning}
use Rattle.ov_tidy.proofs.thin.Thin.file_or_next.Goals as goal

pub returns-in-None : goal.returns-in-None
returns-in-None c =
    let s = c.self.inside.state.catalogue in
    ap (λ (z : Sizes). z.files) c.sizes.ensures
    ∙ sym (length-names (outline s) s.files) ∙ sym c.in-None.ensures.number
    ∙ ap (λ (t : Thinning). file_named t.catalogue c.args.name.now) c.self.view_is
