use Rattle.std.proofs.Common.{subst, sym, ◌*◌}
use Rattle.ov_base.specs.declared.limits.TheConstants.{SET_WORDS}
use Rattle.ov_history.specs.Asking.{file_named, of_file}
use Rattle.ov_wire.specs.AnswerForm.{HasAnswerForm}
use Rattle.ov_server.proofs.AskForms.{known_form, remove_numbers}
use Rattle.ov_server.proofs.asking.answer_remove.Goals as goal

pub returns-in-Ok-clause-form : goal.returns-in-Ok-clause-form
returns-in-Ok-clause-form c =
    let c0 = c.args.state.now.catalogue in
    let f = file_named c0 c.args.file.now in
    let told = rw c.in-Ok.is at c.ask_remove.ensures in
    subst HasAnswerForm (sym c.known-in-Ok.ensures)
    (known_form (64 * SET_WORDS) c0 c.epoch.result c.in-Ok.asked (of_file c0 f) c.known.ensures
    c.epoch.ensures told.1 (remove_numbers (64 * SET_WORDS) c0 f c.known.ensures told.0))
