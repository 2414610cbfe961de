use Rattle.std.proofs.Common.{◌≡◌, ◌∙◌, Ok, ap, refl, subst, sym}
use Rattle.std.specs.Prelude.{IfOk}
use Rattle.ov_base.specs.NameLists.{AreDistinct}
use Rattle.ov_history.specs.Asking.{file_named, user_named}
use Rattle.ov_history.specs.Catalogue.{Catalogue}
use Rattle.ov_wire.specs.declared.request.Request.{Request}
use Rattle.ov_wire.specs.declared.request.Request.TheVariants as requests
use Rattle.ov_wire.specs.declared.answer.Answer.{Answer}
use Rattle.ov_wire.specs.declared.answer.Answer.TheVariants as answers
use Rattle.ov_wire.specs.RequestReading.{request_of}
use Rattle.ov_protocol.specs.Asking.{AnswersAsk}
use Rattle.ov_protocol.specs.Pages.{entry_of, page_of}
use Rattle.ov_protocol.specs.Reading.{AnswersChain, AnswersList}
use Rattle.ov_store.specs.Opened.{Opened}
use Rattle.ov_server.proofs.DistinctUsers.{users_are_distinct}
use Rattle.ov_server.proofs.Shown.{MakesNone, always, answers_still, no_update}
use Rattle.ov_server.proofs.server.Server.answer_request.Goals as goal

pub answer_list-requires : goal.answer_list-requires
answer_list-requires g c =
    subst (λ (k : Catalogue). AreDistinct k.users)
    (sym
    (c.state-state.ensures ∙ ap (λ (o : Opened g.row.D.Denot). o.catalogue) c.self.view_is))
    (users_are_distinct _ _ c.known.ensures.0 c.known.ensures.1.catalogue)

pub returns-in-Hello : goal.returns-in-Hello
returns-in-Hello g c =
    let s = c.args.self.now in
    λ request is.
    let read : request_of request ≡ Ok requests.Hello =
    is ∙ ap (λ (r : Request). Ok r) c.in-Hello.is in
    answers_still g.D.Disk.tells s request (Ok requests.Hello) read (Ok c.welcome.result)
    c.reply_with.new.reply.items c.reply_with.result
    c.welcome.ensures.answer c.welcome.ensures.form
    (refl, λ u has. absurd (no_update s request u has requests.Hello read (λ e. let wrong = e.3 in cc)))
    (c.reply_with.ensures.ok, c.reply_with.ensures.err)

pub returns-in-Ask : goal.returns-in-Ask
returns-in-Ask g c =
    let s = c.args.self.now in
    let same : c.state-state.result.now.catalogue ≡ s.catalogue =
    c.state-state.ensures ∙ ap (λ (o : Opened g.row.D.Denot). o.catalogue) c.self.view_is in
    let asked : Request = requests.Ask c.in-Ask.question in
    λ request is.
    let read : request_of request ≡ Ok asked = is ∙ ap (λ (r : Request). Ok r) c.in-Ask.is in
    answers_still g.D.Disk.tells s request (Ok asked) read c.answer_ask.result
    c.reply_with-in-Ask.new.reply.items c.reply_with-in-Ask.result
    (subst (λ (k : Catalogue). IfOk c.answer_ask.result (AnswersAsk k c.in-Ask.question)) same
    c.answer_ask.ensures.answer) c.answer_ask.ensures.form
    (always c.answer_ask.result (MakesNone s request (Ok asked))
    (λ a. (refl, λ u has. absurd (no_update s request u has asked read (λ e. let wrong = e.3 in cc)))))
    (c.reply_with-in-Ask.ensures.ok, c.reply_with-in-Ask.ensures.err)

pub returns-in-Chain : goal.returns-in-Chain
returns-in-Chain g c =
    let s = c.args.self.now in
    let same : c.state-state.result.now.catalogue ≡ s.catalogue =
    c.state-state.ensures ∙ ap (λ (o : Opened g.row.D.Denot). o.catalogue) c.self.view_is in
    let asked : Request = requests.Chain c.in-Chain.user c.in-Chain.file in
    λ request is.
    let read : request_of request ≡ Ok asked = is ∙ ap (λ (r : Request). Ok r) c.in-Chain.is in
    answers_still g.D.Disk.tells s request (Ok asked) read c.answer_chain.result
    c.reply_with-in-Chain.new.reply.items c.reply_with-in-Chain.result
    (subst (λ (k : Catalogue). IfOk c.answer_chain.result (AnswersChain k
    (user_named k c.in-Chain.user) (file_named k c.in-Chain.file))) same
    c.answer_chain.ensures.answer) c.answer_chain.ensures.form
    (always c.answer_chain.result (MakesNone s request (Ok asked))
    (λ a. (refl, λ u has. absurd (no_update s request u has asked read (λ e. let wrong = e.3 in cc)))))
    (c.reply_with-in-Chain.ensures.ok, c.reply_with-in-Chain.ensures.err)

pub returns-in-Page : goal.returns-in-Page
returns-in-Page g c =
    let s = c.args.self.now in
    let same : c.state-state.result.now.catalogue ≡ s.catalogue =
    c.state-state.ensures ∙ ap (λ (o : Opened g.row.D.Denot). o.catalogue) c.self.view_is in
    let asked : Request = requests.Page c.in-Page.part c.in-Page.number in
    λ request is.
    let read : request_of request ≡ Ok asked = is ∙ ap (λ (r : Request). Ok r) c.in-Page.is in
    answers_still g.D.Disk.tells s request (Ok asked) read c.answer_page.result
    c.reply_with-in-Page.new.reply.items c.reply_with-in-Page.result
    (subst (λ (k : Catalogue). IfOk c.answer_page.result (λ (a : Answer).
    a ≡ answers.PageOf (page_of (entry_of k c.in-Page.part c.in-Page.number)))) same
    c.answer_page.ensures.answer) c.answer_page.ensures.form
    (always c.answer_page.result (MakesNone s request (Ok asked))
    (λ a. (refl, λ u has. absurd (no_update s request u has asked read (λ e. let wrong = e.3 in cc)))))
    (c.reply_with-in-Page.ensures.ok, c.reply_with-in-Page.ensures.err)

pub returns-in-List : goal.returns-in-List
returns-in-List g c =
    let s = c.args.self.now in
    let same : c.state-state.result.now.catalogue ≡ s.catalogue =
    c.state-state.ensures ∙ ap (λ (o : Opened g.row.D.Denot). o.catalogue) c.self.view_is in
    let asked : Request = requests.List c.in-List.file in
    λ request is.
    let read : request_of request ≡ Ok asked = is ∙ ap (λ (r : Request). Ok r) c.in-List.is in
    answers_still g.D.Disk.tells s request (Ok asked) read c.answer_list.result
    c.reply_with-in-List.new.reply.items c.reply_with-in-List.result
    (subst (λ (k : Catalogue). IfOk c.answer_list.result (AnswersList k (file_named k c.in-List.file))) same
    c.answer_list.ensures.answer) c.answer_list.ensures.form
    (always c.answer_list.result (MakesNone s request (Ok asked))
    (λ a. (refl, λ u has. absurd (no_update s request u has asked read (λ e. let wrong = e.3 in cc)))))
    (c.reply_with-in-List.ensures.ok, c.reply_with-in-List.ensures.err)
