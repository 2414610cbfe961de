-- A read of a history that nobody changes meanwhile is answered.
use Rattle.std.proofs.Common.{◌≡◌, ◌∙◌, ℕ}
use Rattle.std.proofs.Common.{List, [], ◌∷◌, length, Option, Some, None}
use Rattle.std.proofs.Common.{Result, Ok, Err, refl, sym, ap, subst, inl, inr}
use Rattle.std.specs.Prelude.{◌⊎◌, slice_index_or}
use Rattle.ov_base.specs.declared.limits.TheConstants.{MAX_CHUNK_BYTES}
use Rattle.ov_record.specs.Updates.{SealedUpdate}
use Rattle.ov_history.specs.Asking.{file_named, user_named}
use Rattle.ov_history.specs.Catalogue.{Catalogue, Filed}
use Rattle.ov_history.specs.FadingLaws.{IsRight}
use Rattle.ov_history.specs.Masters.{Masters}
use Rattle.ov_history.specs.Places.{living_at}
use Rattle.ov_history.specs.Plain.{PlainHistory, history_of}
use Rattle.ov_history.specs.Refusals.{IsLegal}
use Rattle.ov_history.specs.Sealed.{SealedHistory, catalogue_of, stored_of}
use Rattle.ov_history.specs.Sealing.{sealed}
use Rattle.ov_history.proofs.Agreeing.{right_keeps, right_shows}
use Rattle.ov_wire.specs.declared.request.Request.{Request}
use Rattle.ov_wire.specs.declared.request.Request.TheVariants as requests
use Rattle.ov_wire.specs.declared.answer.Answer.{Answer}
use Rattle.ov_wire.specs.declared.answer.Answer.TheVariants as answers
use Rattle.ov_wire.specs.declared.answer.Chained.{Chained}
use Rattle.ov_wire.specs.AnswerBytes.{answer_bytes}
use Rattle.ov_wire.specs.AnswerReading.{answer_of}
use Rattle.ov_wire.specs.Requests.{HasRequestForm, request_bytes}
use Rattle.ov_protocol.specs.Answers.{Answers}
use Rattle.ov_protocol.specs.Reading.{AnswersChain, AnswersChunk}
use Rattle.ov_protocol.specs.Replies.{AnswersRead, Replies}
use Rattle.ov_protocol.specs.Serving.{Service, later, served}
use Rattle.ov_protocol.proofs.Reading.{request_back}
use Rattle.ov_peer.specs.Asks.{Along, Ask}
use Rattle.ov_peer.specs.Tells.{IsReplyAt}
use Rattle.ov_peer.proofs.Needing.{needs_disk}
use Rattle.ov_client.specs.Laws.{AllAre, HasRoots, HoldsRootKeys, IsAnsweredOrCut}
use Rattle.ov_client.specs.Laws.{ReadsAreAnswered}
use Rattle.ov_client.specs.Readers.{Reader}
use Rattle.ov_client.specs.Talks.{AsksChain, AsksChunk, Closes, Ends, Goes, IsAfter, Moves, Stage}
use Rattle.ov_client.specs.Talks.{after, asked_at}
use Rattle.ov_client.specs.declared.fault.ClientFault.{ClientFault}
use Rattle.ov_client.specs.declared.fault.ClientFault.TheVariants as client
use Rattle.ov_client.proofs.Staying.{found_file}
use Rattle.ov_client.proofs.Quiet.{IsFetching, StandsQuiet, chain_stands, chunk_stands, low_told}
use Rattle.ov_client.proofs.ReadingBack.{chain_is_answer, reads_back}

module _ (k : Masters) (r : Reader) (file : List ℕ) (p : PlainHistory)
    (legal : IsLegal (history_of p)) (holds : HoldsRootKeys k r) (roots : HasRoots p r) where
  abbrev s : Catalogue
  s = catalogue_of k.surface (sealed k p)

  abbrev u : ℕ
  u = user_named s r.name

  abbrev n : ℕ
  n = file_named s file

  abbrev Stands : Stage → Type 0
  Stands stage = StandsQuiet k r file p legal holds roots stage

  -- ---- one ask

  module _ (v : Service) (under_k : v.surface ≡ k.surface) (right : IsRight k p v.history)
      (made : List SealedUpdate) where
    catalogue_is : catalogue_of v.surface v.history ≡ s
    catalogue_is =
        ap (λ (master : List ℕ). catalogue_of master v.history) under_k
        ∙ right_shows k p v.history right.0 right.1

    stored_is : stored_of v.surface v.history ≡ stored_of k.surface (sealed k p)
    stored_is =
        ap (λ (master : List ℕ). stored_of master v.history) under_k
        ∙ right_keeps k p v.history right.0 right.1

    -- the answer in a reply
    answers_so : (request : Request) (reply : List ℕ) → HasRequestForm request
        → (replies : Replies (served v) (request_bytes request) reply made)
        → Answers (served v) request replies.answer
    answers_so request reply form replies =
        subst (λ (x : Result Request ℕ). AnswersRead (served v) x replies.answer)
        (request_back request form)
        replies.answers

    chain_asked : (tries : List ℕ) (least : ℕ) (reply : List ℕ) → least ≡ 0
        → HasRequestForm (requests.Chain r.name file)
        → Replies (served v) (request_bytes (requests.Chain r.name file)) reply made
        → Stands (after r (AsksChain tries least) (answer_of (requests.Chain r.name file) reply))
    chain_asked tries least reply none form replies =
        let is : AnswersChain s u n replies.answer =
        subst
        (λ (d : Catalogue). AnswersChain d (user_named d r.name) (file_named d file) replies.answer)
        catalogue_is (answers_so (requests.Chain r.name file) reply form replies) in
        let read : answer_of (requests.Chain r.name file) reply ≡ Ok replies.answer =
        ap (answer_of (requests.Chain r.name file)) replies.spelled
        ∙ reads_back (requests.Chain r.name file) replies.answer
        (chain_is_answer s r.name file u n replies.answer is replies.form) replies.form in
        subst (λ (x : Result Answer ℕ). Stands (after r (AsksChain tries least) x)) (sym read)
        (chain_stands k r file p legal holds roots tries least replies.answer none is)

    chunk_asked : (tries : List ℕ) (c : Chained) (stored : List ℕ)
        (f : IsFetching k r file p legal holds roots c stored) (reply : List ℕ)
        → HasRequestForm (requests.Chunk c.file c.generation (length stored) MAX_CHUNK_BYTES)
        → Replies (served v) (request_bytes
        (requests.Chunk c.file c.generation (length stored) MAX_CHUNK_BYTES)) reply made
        → Stands (after r (AsksChunk tries c stored)
        (answer_of (requests.Chunk c.file c.generation (length stored) MAX_CHUNK_BYTES) reply))
    chunk_asked tries c stored f reply form replies =
        let request : Request = requests.Chunk c.file c.generation (length stored)
        MAX_CHUNK_BYTES in
        let at_v : AnswersChunk (living_at (catalogue_of v.surface v.history).files c.file)
        (Some (slice_index_or (stored_of v.surface v.history) c.file [])) c.generation
        (length stored)
        MAX_CHUNK_BYTES replies.answer =
        answers_so request reply form replies in
        let at_k : AnswersChunk (living_at s.files c.file)
        (Some (slice_index_or (stored_of k.surface (sealed k p)) c.file []))
        c.generation (length stored) MAX_CHUNK_BYTES replies.answer =
        subst (λ (t : List (List ℕ)). AnswersChunk (living_at s.files c.file)
        (Some (slice_index_or t c.file [])) c.generation (length stored) MAX_CHUNK_BYTES replies.answer)
        stored_is
        (subst (λ (d : Catalogue). AnswersChunk (living_at d.files c.file)
        (Some (slice_index_or (stored_of v.surface v.history) c.file [])) c.generation
        (length stored)
        MAX_CHUNK_BYTES replies.answer)
        catalogue_is at_v) in
        let both = chunk_stands k r file p legal holds roots tries c stored f replies.answer
        (subst (λ (o : Option Filed). AnswersChunk o
        (Some (slice_index_or (stored_of k.surface (sealed k p)) c.file [])) c.generation
        (length stored) MAX_CHUNK_BYTES replies.answer)
        (found_file s.files c.file (low_told k r file p legal holds roots c stored f)) at_k)
        replies.form in
        let read : answer_of request reply ≡ Ok replies.answer =
        ap (answer_of request) replies.spelled
        ∙ reads_back request replies.answer both.0 replies.form in
        subst (λ (x : Result Answer ℕ). Stands (after r (AsksChunk tries c stored) x)) (sym read)
        both.1

    -- the disk failed at a Chunk
    chunk_failed : (tries : List ℕ) (c : Chained) (stored reply : List ℕ)
        → reply ≡ answer_bytes answers.DeviceFault
        → Stands (after r (AsksChunk tries c stored)
        (answer_of (requests.Chunk c.file c.generation (length stored) MAX_CHUNK_BYTES) reply))
    unfolding StandsQuiet
    chunk_failed tries c stored reply spelled =
        let request : Request = requests.Chunk c.file c.generation (length stored)
        MAX_CHUNK_BYTES in
        let read : answer_of request reply ≡ Ok answers.DeviceFault =
        ap (answer_of request) spelled ∙ reads_back request answers.DeviceFault tt tt in
        subst (λ (x : Result Answer ℕ). Stands (after r (AsksChunk tries c stored) x)) (sym read) tt

    -- the stage after an ask
    asked_stands : (stage next : Stage) (a : Ask) → Stands stage → Moves r file stage a next
        → IsReplyAt v a.request a.reply made
        → Stands next
    unfolding StandsQuiet
    asked_stands stage next a stands moves at_v = by_read moves.reads where
      spelled : a.request ≡ request_bytes moves.asks.request
      spelled = moves.asks.spelled

      at_it : IsReplyAt v (request_bytes moves.asks.request) a.reply made
      at_it = subst (λ (frame : List ℕ). IsReplyAt v frame a.reply made) spelled at_v

      by_stage : (t : Stage) → t ≡ stage → IsAfter r stage moves.asks.request a.reply next
          → Stands next
      by_stage (AsksChain tries least) is moved =
          let chain : Request = requests.Chain r.name file in
          let request : chain ≡ moves.asks.request = cc
          (ap (asked_at r file) is, moves.asks.is_asked) in
          let goes : after r (AsksChain tries least) (answer_of chain a.reply) ≡ next =
          (λ i. after r (is i) (answer_of (request i) a.reply)) ∙ sym moved.moves in
          let none : least ≡ 0 = subst Stands (sym is) stands in
          let at_chain : IsReplyAt v (request_bytes chain) a.reply made =
          subst (λ (x : Request). IsReplyAt v (request_bytes x) a.reply made) (sym request) at_it in
          let form : HasRequestForm chain = subst HasRequestForm (sym request) moves.asks.form in
          subst Stands goes
          (elim at_chain [
            | inl replies ↦ chain_asked tries least a.reply none form replies
            | inr fault ↦ absurd (needs_disk (served v) chain form fault.needs)
          ])
      by_stage (AsksChunk tries c stored) is moved =
          let chunk : Request = requests.Chunk c.file c.generation (length stored)
          MAX_CHUNK_BYTES in
          let request : chunk ≡ moves.asks.request = cc
          (ap (asked_at r file) is, moves.asks.is_asked) in
          let goes : after r (AsksChunk tries c stored) (answer_of chunk a.reply) ≡ next =
          (λ i. after r (is i) (answer_of (request i) a.reply)) ∙ sym moved.moves in
          let f : IsFetching k r file p legal holds roots c stored = subst Stands (sym is) stands in
          let at_chunk : IsReplyAt v (request_bytes chunk) a.reply made =
          subst (λ (x : Request). IsReplyAt v (request_bytes x) a.reply made) (sym request) at_it in
          let form : HasRequestForm chunk = subst HasRequestForm (sym request) moves.asks.form in
          subst Stands goes
          (elim at_chunk [
            | inl replies ↦ chunk_asked tries c stored f a.reply form replies
            | inr fault ↦ chunk_failed tries c stored a.reply fault.spelled
          ])
      by_stage (Ends result) is moved =
          absurd (let none = ap (asked_at r file) is in cc (none, moves.asks.is_asked))

      by_read : (IsAfter r stage moves.asks.request a.reply next)
          ⊎ (next ≡ Ends (Err client.Memory))
          → Stands next
      by_read (inl moved) = by_stage stage refl moved
      by_read (inr memory) = subst Stands (sym memory) tt

  -- ---- all asks

  all_stand : (asks : List Ask) (stage last : Stage) (v end : Service)
      (histories : List SealedHistory) (g : SealedHistory)
      → v.surface ≡ k.surface → Stands stage → Goes r file stage asks last
      → Along v asks histories end → IsRight k p g → AllAre g histories
      → Stands last
  all_stand [] stage last v end histories g under_k stands goes along right same =
      subst Stands goes stands
  all_stand (a ∷ asks) stage last v end [] g under_k stands goes along right same = absurd along
  all_stand (a ∷ asks) stage last v end (other ∷ histories) g under_k stands (next, moves, goes)
      (others, made, at_other, at_u, along) right (is, same) =
      let here : IsRight k p (later v others).history =
      subst (λ (h : SealedHistory). IsRight k p h) (sym is ∙ at_other) right in
      all_stand asks next last (later (later v others) made) end histories g under_k
      (asked_stands (later v others) under_k here made stage next a stands moves at_u)
      goes along right same

  closed_so : (last : Stage) (unanswered : Option (List ℕ)) (result : Result (List ℕ) ClientFault)
      → Stands last → Closes r file last unanswered result → IsAnsweredOrCut result
  unfolding StandsQuiet
  closed_so last None result stands (inl is) = subst Stands is stands
  closed_so last None result stands (inr memory) = subst IsAnsweredOrCut (sym memory) tt
  closed_so last (Some frame) result stands (asks, inl link) = subst IsAnsweredOrCut (sym link) tt
  closed_so last (Some frame) result stands (asks, inr memory) = subst IsAnsweredOrCut (sym memory)
      tt

  begins : Stands (AsksChain [] 0)
  unfolding StandsQuiet
  begins = refl

pub reads_are_answered : ReadsAreAnswered
reads_are_answered k r file asks unanswered result v last histories p g holds roots under_k
    (end, goes, closes) along right same =
    closed_so k r file p right.0 holds roots end unanswered result
    (all_stand k r file p right.0 holds roots asks (AsksChain [] 0) end v last histories g under_k
    (begins k r file p right.0 holds roots) goes along right same)
    closes
