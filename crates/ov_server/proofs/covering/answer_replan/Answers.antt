use Rattle.std.proofs.Common.{subst, sym, ◌*◌}
use Rattle.ov_base.specs.declared.limits.TheConstants.{SET_WORDS}
use Rattle.ov_history.specs.Asking.{file_named}
use Rattle.ov_history.specs.Catalogue.{outline}
use Rattle.ov_history.specs.Layers.{list_in}
use Rattle.ov_wire.specs.AnswerForm.{HasAnswerForm}
use Rattle.ov_server.proofs.PlanForms.{planned_form, replan_form}
use Rattle.ov_server.proofs.covering.answer_replan.Goals as goal

pub returns-in-Ok-clause-form : goal.returns-in-Ok-clause-form
returns-in-Ok-clause-form c =
    let c0 = c.args.state.now.catalogue in
    let f = file_named c0 c.args.file.now in
    let told = rw c.in-Ok.is at c.replan.ensures in
    subst HasAnswerForm (sym c.plan.ensures)
    (planned_form c0 (list_in (outline c0) f) c.epoch.result c.in-Ok.planned
    (replan_form (64 * SET_WORDS) c0 f c.args.size c.known.ensures told.0) c.epoch.ensures told.1
    told.2 told.3)
