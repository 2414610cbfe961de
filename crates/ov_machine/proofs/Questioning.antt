-- What one question to the machine's server comes to.
use Rattle.std.proofs.Common.{◌≡◌, ◌∙◌, ℕ, List, [], ◌∷◌, Option, Some, None, Result, Ok, Err, refl, sym, ap, inl, inr}
use Rattle.std.specs.Prelude.{◌⊎◌}
use Rattle.ov_disk.specs.Tells.{DiskTells}
use Rattle.ov_wire.specs.declared.request.Request.{Request}
use Rattle.ov_wire.specs.declared.answer.Answer.{Answer}
use Rattle.ov_wire.specs.AnswerForm.{HasAnswerForm}
use Rattle.ov_wire.specs.AnswerReading.{answer_of}
use Rattle.ov_wire.specs.AnswersTo.{IsAnswer}
use Rattle.ov_wire.specs.Requests.{HasRequestForm, request_bytes}
use Rattle.ov_protocol.specs.Answers.{Answers}
use Rattle.ov_protocol.specs.Serving.{Serving}
use Rattle.ov_peer.specs.Asks.{AreAsks, Ask}
use Rattle.ov_peer.specs.Disks.{MayNeedDisk}
use Rattle.ov_peer.specs.Exchanges.{Forgets}
use Rattle.ov_peer.specs.Tracing.{TracesFault, unanswered, unasked, unput}
use Rattle.ov_peer.specs.Tells.{PeerTells}
use Rattle.ov_server.specs.Answering.{serving_of}
use Rattle.ov_store.specs.Opened.{Opened}
use Rattle.ov_owner.specs.Questions.{AsksOnce, taken}
use Rattle.ov_owner.specs.declared.fault.OwnerFault.{OwnerFault}
use Rattle.ov_owner.specs.declared.fault.OwnerFault.TheVariants as faults
use Rattle.ov_owner.proofs.Fitting.{reads_back}
use Rattle.ov_machine.specs.Seats.{IsSeat, Stays, served, store_peer}
use Rattle.ov_machine.proofs.Quiet.{quiet_asked}
use Rattle.ov_machine.proofs.Stays.{stays_same}

-- the question is no more than that: it needs no disk, and its answers are in the grammar
pub record IsPlainQuestion (request : Request) : Type 0 where
  pub form : HasRequestForm request
  pub quiet : MayNeedDisk request → ⊥
  pub fits : (s : Serving) (a : Answer) → Answers s request a → HasAnswerForm a
      → IsAnswer request a

-- the call was cut off
abbrev pub IsCutOff : {T : Type 0} → Result T OwnerFault → Type 0
IsCutOff result = (result ≡ Err faults.Link) ⊎ (result ≡ Err faults.Memory)

-- what a question comes to: this is taken of an answer by what the store shows, or it was cut off
abbrev pub IsTakenOf : {D T : Type 0} → Opened D → Request → (Answer → Result T OwnerFault)
    → Result T OwnerFault → Type 0
IsTakenOf s request take result =
    ((a : Answer) × Answers (serving_of s) request a × (result ≡ take a)) ⊎ IsCutOff result

module _ {D : Type 0} (tells : DiskTells D) {P : Type 0} (peer : PeerTells P)
    (server : P → Opened D) (put : P → Option (List ℕ)) (loan : P → ℕ)
    (seat : IsSeat tells peer server put loan) {T : Type 0} (request : Request)
    (take : Answer → Result T OwnerFault) (question : IsPlainQuestion request) where
  abbrev store_asked : Opened D → List ℕ → List ℕ → Opened D → Type 0
  store_asked s bytes reply t = served tells s bytes reply t

  stays : (p q : P) (reply : List ℕ) → store_asked (server p) (request_bytes request) reply (server q)
      → Stays tells (server p) (server q)
  stays p q reply asks =
      (quiet_asked tells (server p) (server q) request
      reply question.form question.quiet asks).0

  fault_stays : (p q : P) → peer.failed p (request_bytes request) q
      → Stays tells (server p) (server q)
  fault_stays p q fault = by (seat.fails p q (request_bytes request) fault).0 where
    by : TracesFault (store_peer tells)
        (server p) (server q) (put p) (put q) (request_bytes request)
        → Stays tells (server p) (server q)
    by (unasked same n bytes) = stays_same tells (server p) (server q) same
    by (unanswered same bytes) = stays_same tells (server p) (server q) same
    by (unput reply n asks bytes) = stays p q reply asks

  forgets_stays : (p q : P) → Forgets peer p q request → Stays tells (server p) (server q)
  forgets_stays p q (inl same) = stays_same tells (server p) (server q) (ap server same)
  forgets_stays p q (inr (inl fault)) = fault_stays p q fault
  forgets_stays p q (inr (inr (reply, asks))) =
      stays p q reply (seat.asks p q (request_bytes request) reply asks).0.peer

  -- a question changes nothing, and ends so
  pub once_so : (p q : P) (result : Result T OwnerFault)
      → AsksOnce peer p q request take result
      → Stays tells (server p) (server q) × IsTakenOf (server p) request take result
  once_so p q result (inl (read, answered, is)) =
      let asks = (seat.asks p q (request_bytes request) answered.reply answered.sent).0.peer in
      let (same, a, said) = quiet_asked tells (server p)
      (server q) request answered.reply question.form question.quiet asks in
      let reads_as : answer_of request answered.reply ≡ Ok a =
      reads_back request a answered.reply
      (question.fits (serving_of (server p)) a said.answers said.form) said.form said.spelled in
      (same, inl (a, said.answers, is ∙ ap (taken take) (sym answered.reads ∙ reads_as)))
  once_so p q result (inr (inl (link, fault))) = (fault_stays p q fault, inr (inl link))
  once_so p q result (inr (inr (memory, forgets))) = (forgets_stays p q forgets, inr (inr memory))

  -- a question as a list of asks
  pub once_asks : (p q : P) (result : Result T OwnerFault)
      → AsksOnce peer p q request take result
      → (asks : List Ask) × (o : Option (List ℕ)) × AreAsks peer p asks o q
  once_asks p q result (inl (read, answered, is)) = (
    record { request = request_bytes request; reply = answered.reply } ∷ [],
    None,
    (q, (q, answered.sent, refl), refl),
  )
  once_asks p q result (inr (inl (link, fault))) = ([], Some (request_bytes request), (p, refl, fault))
  once_asks p q result (inr (inr (memory, inl same))) = ([], None, (p, refl, sym same))
  once_asks p q result (inr (inr (memory, inr (inl fault)))) =
      ([], Some (request_bytes request), (p, refl, fault))
  once_asks p q result (inr (inr (memory, inr (inr (reply, asks))))) = (
    record { request = request_bytes request; reply = reply } ∷ [],
    None,
    (q, (q, asks, refl), refl),
  )
