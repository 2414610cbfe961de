use Rattle.std.proofs.Common.{◌∙◌, ℕ, Ok, Option, Result, Some, subst}
use Rattle.ov_record.specs.declared.update.Update.{Update}
use Rattle.ov_state.specs.declared.state.TheConstants.{WIDTH}
use Rattle.ov_store.specs.Wholes.{ReadsWhole}
use Rattle.ov_store.specs.declared.briefs.BriefFault.{BriefFault}
use Rattle.ov_tidy.proofs.copying.read_again.Goals as goal

pub returns-in-Ok-Some-clause-update : goal.returns-in-Ok-Some-clause-update
returns-in-Ok-Some-clause-update g c =
    let old = c.args.old.now in
    subst (λ (n : ℕ). ReadsWhole g.D.Disk.tells old n c.args.file (Ok (Some c.in-Ok-Some.update)))
    c.from.ensures
    (subst (λ (r : Result (Option (Update WIDTH)) BriefFault).
    ReadsWhole g.D.Disk.tells old c.from.result c.args.file r)
    (c.in-Ok-Some.is ∙ (λ j. Ok (c.in-Ok-Some.field-0-is j))) c.whole.ensures.update)
