use Rattle.std.proofs.Common.{◌∙◌, List, ap}
use Rattle.std.specs.Prelude.{Option}
use Rattle.ov_tidy.specs.Thins.{plain_notes}
use Rattle.ov_tidy.specs.declared.note.Last.{Last}
use Rattle.ov_tidy.proofs.Namings.{plain_more}
use Rattle.ov_tidy.proofs.marks.push_none.Goals as goal

pub returns : goal.returns
returns c =
    ap (λ (xs : List (Option Last)). plain_notes xs) c.push_reserved.ensures.items
    ∙ plain_more c.args.notes.now.items
