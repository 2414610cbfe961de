use Rattle.std.proofs.Common.{◌≡◌, ◌∙◌, ap, refl, subst}
use Rattle.ov_history.specs.Catalogue.{Catalogue}
use Rattle.ov_history.specs.Lists.{set_named}
use Rattle.ov_wire.specs.declared.request.Request.{Request}
use Rattle.ov_wire.specs.declared.request.Request.TheVariants as requests
use Rattle.ov_protocol.specs.Asking.{AnswersCover}
use Rattle.ov_store.specs.Opened.{Opened}
use Rattle.ov_server.specs.Telling.{PlansIn}
use Rattle.ov_server.proofs.PlanForms.{cover_plans}
use Rattle.ov_server.proofs.Shown.{answers_one, forgot_by, no_update}
use Rattle.ov_server.proofs.server.Server.cover_and_remember.Goals as goal

pub returns-in_err-answer : goal.returns-in_err-answer
returns-in_err-answer g c =
    λ request is.
    forgot_by g.D.Disk.tells c.args.self.now request c.clear.new.self.items
    c.from_residual.result c.from_residual.ensures.0 c.clear.ensures.items

pub reply_and_remember-requires-clause-plan : goal.reply_and_remember-requires-clause-plan
reply_and_remember-requires-clause-plan g c =
    subst (λ (k : Catalogue). PlansIn k.base.sets c.in_ok-answer.answer)
    (c.state.ensures ∙ ap (λ (o : Opened g.row.D.Denot). o.catalogue) c.self.view_is)
    (cover_plans c.state.result.now.catalogue c.args.file.now c.args.size
    (set_named c.state.result.now.catalogue.users c.args.names.now) c.in_ok-answer.answer
    c.in_ok-answer.ensures.answer)

pub returns : goal.returns
returns g c =
    let s = c.args.self.now in
    let same : c.state.result.now.catalogue ≡ s.catalogue =
    c.state.ensures ∙ ap (λ (o : Opened g.row.D.Denot). o.catalogue) c.self.view_is in
    let asked : Request = requests.Cover c.args.file.now c.args.size c.args.names.now in
    let told = c.reply_and_remember.ensures in
    λ request is.
    answers_one g.D.Disk.tells s c.reply_and_remember.new.self request asked is
    (λ u has. no_update s request u has asked is (λ e. let wrong = e.3 in cc))
    c.in_ok-answer.answer c.reply_and_remember.new.reply.items c.reply_and_remember.result
    (subst (λ (k : Catalogue). AnswersCover k c.args.file.now c.args.size
    (set_named k.users c.args.names.now) c.in_ok-answer.answer) same c.in_ok-answer.ensures.answer)
    c.in_ok-answer.ensures.form refl told.same told.ok told.err
