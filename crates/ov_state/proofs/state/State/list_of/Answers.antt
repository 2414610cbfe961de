use Rattle.std.proofs.Common.{◌∙◌, ap, sym}
use Rattle.ov_history.specs.Layers.{list_at}
use Rattle.ov_history.specs.Catalogue.{Filed, outline, place_of_file}
use Rattle.ov_state.proofs.FilesByNumber.{filed-at}
use Rattle.ov_state.proofs.state.State.list_of.Goals as goal

pub returns : goal.returns
returns g c =
    let s = c.args.self.now.catalogue in
    c.list_by.ensures ∙ ap (λ (f : Filed). list_at (outline s) (place_of_file f)) (sym (filed-at s c.args.file _ c.entry.ensures.kept))
