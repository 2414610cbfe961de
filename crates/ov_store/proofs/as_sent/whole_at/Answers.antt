use Rattle.std.proofs.Common.{◌≡◌, ◌∙◌, None, Ok, Option, Result, Some, true, subst}
use Rattle.std.specs.Prelude.{IfOk, IfSome}
use Rattle.ov_journal.specs.declared.fault.CheckFault.{CheckFault}
use Rattle.ov_record.specs.Briefs.{brief as brief_as_spelled, plain_brief}
use Rattle.ov_record.specs.Updates.{sealed_update}
use Rattle.ov_record.specs.declared.brief.Brief.{Brief}
use Rattle.ov_record.specs.declared.update.Update.{Update}
use Rattle.ov_state.specs.declared.state.TheConstants.{WIDTH}
use Rattle.ov_store.specs.Briefs.{FindsRecord}
use Rattle.ov_store.specs.Owners.{is_gone_in}
use Rattle.ov_store.specs.Wholes.{HasZeros}
use Rattle.ov_store.specs.declared.briefs.BriefFault.{BriefFault}
use Rattle.ov_store.proofs.SentAgain.{SaysWhole, finds_changed, finds_fault, finds_whole}
use Rattle.ov_store.proofs.as_sent.whole_at.Goals as goal

pub returns-in-Ok-Some-whole_update-clause-record :
    goal.returns-in-Ok-Some-whole_update-clause-record
returns-in-Ok-Some-whole_update-clause-record g c =
    let reads = g.D.Disk.tells.reads c.args.disk.now in
    let master = c.args.surface.now.bytes in
    let b = c.in-Ok-Some.brief in
    let found = subst (λ (r : Result (Option (Brief WIDTH)) BriefFault).
    FindsRecord reads c.args.journal.now c.args.i r)
    (c.in-Ok-Some.is ∙ (λ j. Ok (c.in-Ok-Some.field-0-is j))) c.read_at.ensures.record in
    let is : c.whole_update.result ≡ Ok (Some c.in-Ok-Some-whole_update.whole) =
    c.in-Ok-Some-whole_update.is ∙ (λ j. Ok (c.in-Ok-Some-whole_update.field-0-is j)) in
    let spelled = subst (λ (r : Result (Option (Update WIDTH)) CheckFault). IfOk r (λ o.
    IfSome o (λ w. brief_as_spelled (sealed_update w) ≡ plain_brief b))) is
    c.whole_update.ensures.brief in
    let whole = subst (λ (r : Result (Option (Update WIDTH)) CheckFault). IfOk r (λ o.
    SaysWhole (g.D.Disk.tells.reads c.read_at.new.disk) master c.args.placed.now c.args.file b o)) is
    c.whole_update.ensures.whole in
    finds_whole reads master c.args.journal.now c.args.placed.now c.args.i c.args.file b
    c.in-Ok-Some-whole_update.whole found spelled
    (λ d read. whole d (c.read_at.ensures.untouched.reads_same ∙ read))

pub returns-in-Ok-None-whole_update-clause-record :
    goal.returns-in-Ok-None-whole_update-clause-record
returns-in-Ok-None-whole_update-clause-record g c =
    let reads = g.D.Disk.tells.reads c.args.disk.now in
    let master = c.args.surface.now.bytes in
    let b = c.in-Ok-Some.brief in
    let found = subst (λ (r : Result (Option (Brief WIDTH)) BriefFault).
    FindsRecord reads c.args.journal.now c.args.i r)
    (c.in-Ok-Some.is ∙ (λ j. Ok (c.in-Ok-Some.field-0-is j))) c.read_at.ensures.record in
    let is : c.whole_update.result ≡ Ok None =
    c.in-Ok-None-whole_update.is ∙ (λ j. Ok (c.in-Ok-None-whole_update.field-0-is j)) in
    let whole = subst (λ (r : Result (Option (Update WIDTH)) CheckFault). IfOk r (λ o.
    SaysWhole (g.D.Disk.tells.reads c.read_at.new.disk) master c.args.placed.now c.args.file b o)) is
    c.whole_update.ensures.whole in
    finds_changed reads master c.args.journal.now c.args.placed.now c.args.i c.args.file b
    c.offset.result found
    (λ d read. whole d (c.read_at.ensures.untouched.reads_same ∙ read))

pub returns-in-Err-clause-record : goal.returns-in-Err-clause-record
returns-in-Err-clause-record g c =
    finds_fault (g.D.Disk.tells.reads c.args.disk.now) c.args.surface.now.bytes c.args.journal.now
    c.args.placed.now c.args.i c.args.file c.in-Err.fault
    (subst (λ (r : Result (Option (Brief WIDTH)) BriefFault).
    FindsRecord (g.D.Disk.tells.reads c.args.disk.now) c.args.journal.now c.args.i r) c.in-Err.is
    c.read_at.ensures.record)

pub returns-in-Ok-Some-whole_update-clause-zeros :
    goal.returns-in-Ok-Some-whole_update-clause-zeros
returns-in-Ok-Some-whole_update-clause-zeros g c gone =
    let is : c.whole_update.result ≡ Ok (Some c.in-Ok-Some-whole_update.whole) =
    c.in-Ok-Some-whole_update.is ∙ (λ j. Ok (c.in-Ok-Some-whole_update.field-0-is j)) in
    subst (λ (r : Result (Option (Update WIDTH)) CheckFault). IfOk r (λ o. IfSome o (λ w.
    is_gone_in c.args.placed.now.catalogue c.args.file ≡ true → HasZeros (sealed_update w)))) is
    c.whole_update.ensures.zeros gone
