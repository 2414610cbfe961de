use Rattle.std.proofs.Common.{◌≡◌, ◌∙◌, List, ℕ, Err, Some, ap, subst}
use Rattle.std.specs.Prelude.{IfOk}
use Rattle.ov_history.specs.Catalogue.{matrix_shown}
use Rattle.ov_record.specs.Briefs.{Brief as SpelledBrief}
use Rattle.ov_record.specs.declared.fault.RecordFault.{RecordFault}
use Rattle.ov_consulting.specs.Pending.{pending_line}
use Rattle.ov_consulting.proofs.Told.{is_read, never_bad}
use Rattle.ov_consulting.proofs.pending.line_on_brief.Goals as goal

pub unreachable-requires : goal.unreachable-requires
unreachable-requires c =
    never_bad c.args.brief.now c.read_brief.result c.in-Err-BadRecord.field-0-0
    (c.in-Err-BadRecord.is ∙ ap (λ (why : RecordFault). Err why) c.in-Err-BadRecord.field-0-is)
    c.read_brief.ensures.only c.requires.brief

pub returns-in-Ok : goal.returns-in-Ok
returns-in-Ok c u form is =
    let cat = c.args.state.now.catalogue in
    subst (λ (v : SpelledBrief). IfOk c.line_on_update.result
    (λ (bytes : List ℕ). bytes ≡ pending_line (matrix_shown cat) cat.epoch (Some v)))
    (is_read c.args.brief.now c.read_brief.result c.in-Ok.update c.in-Ok.field-0-1 c.in-Ok.is
    c.read_brief.ensures.only u form is)
    c.line_on_update.ensures
