use Rattle.std.proofs.Common.{◌∙◌, sym, ap, length}
use Rattle.ov_history.specs.Catalogue.{outline}
use Rattle.ov_state.specs.Contents.{Held}
use Rattle.ov_state.proofs.QueryLaws.{length-names}
use Rattle.ov_state.proofs.state.State.file_or_next.Goals as goal

pub returns-in-Some : goal.returns-in-Some
returns-in-Some g c = c.in-Some.ensures.number.0

pub returns-in-None : goal.returns-in-None
returns-in-None g c =
    let s = c.args.self.now.catalogue in
    c.count.ensures ∙ ap (λ (h : Held). length h.catalogue.files) c.self.view_is
    ∙ sym (length-names (outline s) s.files) ∙ sym c.in-None.ensures.number
