use Rattle.std.proofs.Common.{◌≡◌, ℕ, List, subst, sym, ◌*◌}
use Rattle.std.specs.Prelude.{Some}
use Rattle.ov_base.specs.declared.limits.TheConstants.{SET_WORDS}
use Rattle.ov_history.specs.Asking.{refusal_at}
use Rattle.ov_history.specs.History.{Created}
use Rattle.ov_history.specs.Lists.{set_named}
use Rattle.ov_wire.specs.AnswerForm.{HasAnswerForm}
use Rattle.ov_server.proofs.PlanForms.{plan_form, planned_form}
use Rattle.ov_server.proofs.covering.answer_cover.Goals as goal

pub returns-in-Ok-clause-form : goal.returns-in-Ok-clause-form
returns-in-Ok-clause-form c =
    let c0 = c.args.state.now.catalogue in
    let list = set_named c0.users c.as_slice.result.now in
    let told = rw c.in-Ok.is at c.cover.ensures in
    subst HasAnswerForm (sym c.plan.ensures)
    (planned_form c0 list c.epoch.result c.in-Ok.planned
    (plan_form (64 * SET_WORDS) c0 c.args.file.now list c.args.size c.known.ensures told.0)
    c.epoch.ensures told.1 told.2 told.3)

pub returns-in-Err-Refused-clause-answer : goal.returns-in-Err-Refused-clause-answer
returns-in-Err-Refused-clause-answer c =
    let c0 = c.args.state.now.catalogue in
    let refused = rw c.in-Err-Refused.field-0-is at c.in-Err-Refused.ensures in
    subst
    (λ (names : List (List ℕ)). refusal_at c0 (Created c.args.file.now (set_named c0.users names)
    c.args.size) ≡ Some c.in-Err-Refused.refusal) c.as_slice.ensures.names refused
