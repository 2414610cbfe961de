use Rattle.std.proofs.Common.{◌≡◌, ◌⊎◌, Some, None, Option, Ok, inl, inr, subst}
use Rattle.ov_book.specs.declared.intent.Intent.{Intent}
use Rattle.ov_owning.specs.Intents.{FindsIntent}
use Rattle.ov_owning.specs.Running.{IsResume}
use Rattle.ov_owning.proofs.Calls.{none_if}
use Rattle.ov_owning.proofs.Stops.{stops_for}
use Rattle.ov_owning.proofs.owning.act_by.Goals as goal
use Rattle.ov_owning.proofs.owning.act_by.Goals.{else-pending-via-then-pending+else-not-is_resume, else-pending-via-else-pending}

pub returns-in-Ok-Some-clause-owns : goal.returns-in-Ok-Some-clause-owns
returns-in-Ok-Some-clause-owns g c =
    let goes_on : IsResume c.args.act ⊎ (c.args.book.now.pending ≡ None) =
    elim c.else-pending.branch [
      | else-pending-via-then-pending+else-not-is_resume w ↦
          inl (w.is_resume.ensures.yes w.if-not-is_resume.false)
      | else-pending-via-else-pending w ↦ inr (none_if c.pending.result c.args.book.now.pending
          c.pending.ensures w.if-pending.false)
    ] in
    inr (
      goes_on,
      (
        Ok (Some c.in-Ok-Some.intent),
        (subst (λ (x : Option Intent). FindsIntent c.args.act (g.B.Source.tells.left c.args.body.now) (Ok x))
            c.in-Ok-Some.field-0-is c.in-Ok-Some.ensures.found),
        λ b holds. (c.own_intent.ensures.owns b holds, λ ok. c.own_intent.ensures.lasts ok b holds),
      ),
    )

pub returns-in-Ok-Some-clause-cause : goal.returns-in-Ok-Some-clause-cause
returns-in-Ok-Some-clause-cause g c = stops_for _ _ _ _ _ _ _ c.own_intent.ensures.cause

pub returns-in-Ok-None-clause-owns : goal.returns-in-Ok-None-clause-owns
returns-in-Ok-None-clause-owns g c =
    let goes_on : IsResume c.args.act ⊎ (c.args.book.now.pending ≡ None) =
    elim c.else-pending.branch [
      | else-pending-via-then-pending+else-not-is_resume w ↦
          inl (w.is_resume.ensures.yes w.if-not-is_resume.false)
      | else-pending-via-else-pending w ↦ inr (none_if c.pending.result c.args.book.now.pending
          c.pending.ensures w.if-pending.false)
    ] in
    inr (
      goes_on,
      (
        Ok None,
        (subst (λ (x : Option Intent). FindsIntent c.args.act (g.B.Source.tells.left c.args.body.now) (Ok x))
            c.in-Ok-None.field-0-is c.in-Ok-None.ensures.found),
        λ b holds. (c.resume.ensures.owns b holds, λ ok. c.resume.ensures.lasts ok b holds),
      ),
    )

pub returns-in-Ok-None-clause-cause : goal.returns-in-Ok-None-clause-cause
returns-in-Ok-None-clause-cause g c = stops_for _ _ _ _ _ _ _ c.resume.ensures.cause
