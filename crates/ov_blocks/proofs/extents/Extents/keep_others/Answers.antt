use Rattle.std.proofs.Common.{sym, ◌∙◌, subst}
use Rattle.std.specs.Prelude.{All}
use Rattle.ov_blocks.specs.Extents.{BeginsOne}
use Rattle.ov_blocks.proofs.extents.Extents.keep_others.Goals as goal

pub keep_others-requires-clause-held : goal.keep_others-requires-clause-held
keep_others-requires-clause-held c =
    subst (λ l. All (BeginsOne l) c.args.gone.now) (sym (c.close.ensures ∙ c.self.view_is)) c.requires.held
