-- Asks of a peer that nobody else updates.
use Rattle.std.proofs.Common.{◌≡◌, ◌∙◌, ℕ, List, [], ◌∷◌, Bool, true, false}
use Rattle.std.proofs.Common.{Option, Some, None, Result, Ok, Err, refl, sym, ap, subst, inl, inr}
use Rattle.std.specs.Prelude.{◌⊎◌}
use Rattle.ov_base.specs.declared.refusal.Refusal.{Refusal}
use Rattle.ov_base.specs.declared.refusal.Refusal.TheVariants.{NoFile}
use Rattle.ov_fields.specs.Spelling.{IsOneOf}
use Rattle.ov_record.specs.Updates.{SealedUpdate}
use Rattle.ov_history.specs.Asking.{file_named}
use Rattle.ov_history.specs.Catalogue.{Catalogue}
use Rattle.ov_history.specs.Refusals.{first_of_tests}
use Rattle.ov_wire.specs.declared.request.Question.TheVariants as questions
use Rattle.ov_wire.specs.declared.request.Request.{Request}
use Rattle.ov_wire.specs.declared.request.Request.TheVariants as requests
use Rattle.ov_wire.specs.declared.answer.Answer.{Answer}
use Rattle.ov_wire.specs.declared.answer.Answer.TheVariants as answers
use Rattle.ov_wire.specs.AnswerForm.{HasAnswerForm}
use Rattle.ov_wire.specs.AnswerReading.{answer_of}
use Rattle.ov_wire.specs.AnswersTo.{IsAnswer}
use Rattle.ov_wire.specs.Requests.{HasRequestForm, request_bytes}
use Rattle.ov_protocol.specs.Answers.{Answers, made_by}
use Rattle.ov_protocol.specs.Reading.{AnswersList}
use Rattle.ov_protocol.specs.Replies.{AnswersRead, made_of}
use Rattle.ov_protocol.specs.Serving.{Service, Serving, later, served}
use Rattle.ov_protocol.proofs.Leaving.{later-nil}
use Rattle.ov_protocol.proofs.Reading.{request_back}
use Rattle.ov_peer.specs.Alone.{IsAlone, IsLeftAlone}
use Rattle.ov_peer.specs.Asks.{Ask, EndsAt, Leads}
use Rattle.ov_peer.specs.Disks.{MayNeedDisk}
use Rattle.ov_peer.specs.Exchanges.{Answered}
use Rattle.ov_peer.specs.Tells.{IsReplyAt, PeerTells}
use Rattle.ov_peer.proofs.Needing.{needs_disk}
use Rattle.ov_client.proofs.Alone.{same_left}
use Rattle.ov_owner.specs.Alone.{AnsweredAlone, AskedAlone}
use Rattle.ov_owner.specs.Questions.{AsksOnce, taken}
use Rattle.ov_owner.specs.declared.fault.OwnerFault.{OwnerFault}
use Rattle.ov_owner.specs.declared.fault.OwnerFault.TheVariants as faults
use Rattle.ov_owner.proofs.Fitting.{ask_fits, reads_back}

-- ---- lists of asks

module _ {P : Type 0} (peer : PeerTells P) (alone : IsAlone peer) where
  pub leads_alone : (asks : List Ask) (p q : P) (v : Service) → Leads peer p asks q
      → peer.serves p v → (last : Service) × AnsweredAlone v asks last × peer.serves q last
  leads_alone [] p q v same is = (v, refl, subst (λ x. peer.serves x v) same is)
  leads_alone (a ∷ asks) p q v (n, one, rest) is =
      let (made, at_v, goes_on) = alone p n a.request a.reply v one is in
      let (last, more, end) = leads_alone asks n q (later v made) rest goes_on in
      (last, (made, at_v, more), end)

  -- whatever came of the ask behind them
  pub asked_alone : (asks : List Ask) (unanswered : Option (List ℕ)) (p q : P) (v : Service)
      → Leads peer p asks q → peer.serves p v → (last : Service) × AskedAlone v asks unanswered last
  asked_alone asks None p q v leads is =
      let (last, more, end) = leads_alone asks p q v leads is in (last, (last, more, refl))
  asked_alone asks (Some request) p q v leads is =
      let (last, more, end) = leads_alone asks p q v leads is in
      (last, (last, more, ([], inl refl, later-nil last)))

  -- nor where the ask behind them fails
  pub left_alone : (asks : List Ask) (unanswered : Option (List ℕ)) (p m q : P) (v : Service)
      → IsLeftAlone peer → Leads peer p asks m → EndsAt peer m unanswered q → peer.serves p v
      → (last : Service) × AskedAlone v asks unanswered last × peer.serves q last
  left_alone asks None p m q v left leads same is =
      let (last, more, end) = leads_alone asks p m v leads is in
      (last, (last, more, refl), subst (λ x. peer.serves x last) same end)
  left_alone asks (Some request) p m q v left leads failed is =
      let (n, more, end) = leads_alone asks p m v leads is in
      let (made, may, then) = left m q request n failed end in
      (later n made, (n, more, (made, may, refl)), then)

-- asks leave the keys under which a server serves
pub same_surface : (asks : List Ask) (v last : Service) → AnsweredAlone v asks last
    → last.surface ≡ v.surface
same_surface [] v last same = ap (λ (w : Service). w.surface) (sym same)
same_surface (a ∷ asks) v last (made, replied, alone) = same_surface asks (later v made) last alone

-- ---- one question

-- the question can be sent and needs no disk, and its answers are in the grammar
pub record IsPlainQuestion (request : Request) : Type 0 where
  pub form : HasRequestForm request
  pub quiet : MayNeedDisk request → ⊥
  pub fits : (s : Serving) (a : Answer) → Answers s request a → HasAnswerForm a
      → IsAnswer request a

pub hello_plain : HasRequestForm requests.Hello → IsPlainQuestion requests.Hello
hello_plain form = record {
  form = form;
  quiet = λ x. x;
  fits = λ s a is spelled. subst (IsAnswer requests.Hello) (sym is) (subst HasAnswerForm is spelled);
}

list_refused : (test : Bool) (why : Refusal) → first_of_tests ((NoFile, test) ∷ []) ≡ Some why
    → IsOneOf why (NoFile ∷ [])
list_refused true why is = inl (let same : Some NoFile ≡ Some why = is in cc)
list_refused false why is = absurd (let none : None ≡ Some why = is in cc)

list_fits : (c : Catalogue) (file : List ℕ) (n : ℕ) (a : Answer) → AnswersList c n a
    → HasAnswerForm a → IsAnswer (requests.List file) a
list_fits c file n (answers.Listed names) is form = form
list_fits c file n (answers.Refused why) is form = list_refused _ why is
list_fits c file n a is form = absurd is

pub list_plain : (file : List ℕ) → HasRequestForm (requests.List file)
    → IsPlainQuestion (requests.List file)
list_plain file form = record {
  form = form;
  quiet = λ x. x;
  fits = λ s a is. list_fits s.catalogue file (file_named s.catalogue file) a is;
}

pub key_plain : (user : List ℕ) → HasRequestForm (requests.Ask (questions.Key user))
    → IsPlainQuestion (requests.Ask (questions.Key user))
key_plain user form = record {
  form = form;
  quiet = λ x. x;
  fits = λ s. ask_fits s.catalogue (questions.Key user) tt;
}

-- the call was cut off
abbrev pub IsCutOff : {T : Type 0} → Result T OwnerFault → Type 0
IsCutOff result = (result ≡ Err faults.Link) ⊎ (result ≡ Err faults.Memory)

-- a request that needs no disk makes nothing
quiet_makes : (request : Request) → (MayNeedDisk request → ⊥) → (a : Answer)
    → made_by request a ≡ []
quiet_makes (requests.Update epoch spelling tag) quiet a = absurd (quiet tt)
quiet_makes request quiet a = refl

module _ {P : Type 0} (peer : PeerTells P) (alone : IsAlone peer) {T : Type 0} (request : Request)
    (take : Answer → Result T OwnerFault) (question : IsPlainQuestion request) where
  -- this is taken of an answer by what is served, and what is served stays the same; or the
  -- question was cut off
  abbrev pub IsTakenOf : P → P → Service → Result T OwnerFault → Type 0
  IsTakenOf p q v result =
      ((a : Answer) × (reply : List ℕ)
      × Answers (served v) request a × (result ≡ take a)
      × peer.asked p (request_bytes request) reply q × peer.serves q v)
      ⊎ IsCutOff result

  replied : (p q : P) (v : Service) (result : Result T OwnerFault) (read : Result Answer ℕ)
      (answered : Answered peer p q request read) (made : List SealedUpdate)
      → result ≡ taken take read → peer.serves q (later v made)
      → IsReplyAt v (request_bytes request) answered.reply made
      → IsTakenOf p q v result
  replied p q v result read answered made is goes_on (inr fault) =
      absurd (question.quiet (needs_disk (served v) request question.form fault.needs))
  replied p q v result read answered made is goes_on (inl replies) =
      let a = replies.answer in
      let back = request_back request question.form in
      let at_v : Answers (served v) request a =
      subst (λ (x : Result Request ℕ). AnswersRead (served v) x a) back replies.answers in
      let none : made ≡ [] =
      replies.makes ∙ ap (λ (x : Result Request ℕ). made_of x a) back
      ∙ quiet_makes request question.quiet a in
      let reads_as : answer_of request answered.reply ≡ Ok a =
      reads_back request a answered.reply (question.fits (served v) a at_v replies.form)
      replies.form replies.spelled in
      inl (
        a,
        answered.reply,
        at_v,
        is ∙ ap (taken take) (sym answered.reads ∙ reads_as),
        answered.sent,
        subst (peer.serves q) (same_left v made none) goes_on,
      )

  pub once_alone : (p q : P) (v : Service) (result : Result T OwnerFault)
      → AsksOnce peer p q request take result → peer.serves p v → IsTakenOf p q v result
  once_alone p q v result (inl (read, answered, is)) serving =
      let (made, at_v, goes_on) =
      alone p q (request_bytes request) answered.reply v answered.sent serving in
      replied p q v result read answered made is goes_on at_v
  once_alone p q v result (inr (inl (link, fault))) serving = inr (inl link)
  once_alone p q v result (inr (inr (memory, forgets))) serving = inr (inr memory)
