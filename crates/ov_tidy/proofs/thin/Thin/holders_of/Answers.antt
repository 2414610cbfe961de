use Rattle.std.proofs.Common.{◌∙◌, ap, sym, rules}
use Rattle.ov_history.specs.Catalogue.{outline}
use Rattle.ov_history.specs.Layers.{holders, node_of}
use Rattle.ov_thinning.specs.Notes.{Thinning}
use Rattle.ov_tidy.proofs.Files.{held_by}
use Rattle.ov_tidy.proofs.thin.Thin.holders_of.Goals as goal

pub holders-requires : goal.holders-requires
holders-requires c =
    let f = rw c.in-Some.is at c.file_at.ensures in
    (search rules, (search rules, (c.known.ensures.sound.files c.args.file _ (sym f)).base))

pub returns : goal.returns
returns c =
    let f = rw c.in-Some.is at c.file_at.ensures in
    held_by c.self.inside.state.catalogue c.args.file c.holders.result _ (sym f) c.holders.ensures
    ∙ ap (λ (t : Thinning). holders (outline t.catalogue) (node_of (outline t.catalogue) c.args.file)) c.self.view_is
