use Rattle.std.proofs.Common.{subst, sym, ◌*◌}
use Rattle.ov_base.specs.declared.limits.TheConstants.{SET_WORDS}
use Rattle.ov_history.specs.Asking.{newcomer}
use Rattle.ov_wire.specs.AnswerForm.{HasAnswerForm}
use Rattle.ov_server.proofs.AskForms.{known_form, enrol_numbers}
use Rattle.ov_server.proofs.asking.answer_enrol.Goals as goal

pub returns-in-Ok-clause-form : goal.returns-in-Ok-clause-form
returns-in-Ok-clause-form c =
    let c0 = c.args.state.now.catalogue in
    let told = rw c.in-Ok.is at c.ask_enrol.ensures in
    subst HasAnswerForm (sym c.known-in-Ok.ensures)
    (known_form (64 * SET_WORDS) c0 c.epoch.result c.in-Ok.asked (newcomer c0) c.known.ensures c.epoch.ensures
    told.1 (enrol_numbers (64 * SET_WORDS) c0 c.args.user.now c.known.ensures told.0))
