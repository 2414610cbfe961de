use Rattle.std.proofs.Common.{rules, subst, sym, ◌*◌}
use Rattle.ov_base.specs.declared.limits.TheConstants.{SET_WORDS}
use Rattle.ov_history.specs.Asking.{file_named, user_named}
use Rattle.ov_wire.specs.AnswerForm.{HasAnswerForm}
use Rattle.ov_server.specs.Telling.{HaveTokens}
use Rattle.ov_server.proofs.ChainForms.{chained_form}
use Rattle.ov_server.proofs.chaining.answer_chain.Goals as goal

pub returns-in-Ok-clause-form : goal.returns-in-Ok-clause-form
returns-in-Ok-clause-form c =
    let c0 = c.args.state.now.catalogue in
    let told = rw c.in-Ok.is at c.chain.ensures.chain in
    subst HasAnswerForm (sym c.chained.ensures)
    (chained_form (64 * SET_WORDS) c0 (user_named c0 c.args.user.now) (file_named c0 c.args.file.now)
    c.in-Ok.found c.known.ensures told.0 told.1 c.known_tag.ensures (search rules)
    (subst HaveTokens c.as_slice.ensures c.steps_have_tokens.ensures) c.has_tokens.ensures)
