-- A read over a peer whose histories are right answers as the machine does.
use Rattle.std.proofs.Common.{◌≡◌, ◌∙◌, ℕ, Bool, true, false}
use Rattle.std.proofs.Common.{List, [], ◌∷◌, length, Option, Some, None}
use Rattle.std.proofs.Common.{Result, Ok, Err, refl, sym, ap, subst, inl, inr}
use Rattle.std.specs.Prelude.{◌⊎◌, slice_index_or}
use Rattle.ov_base.specs.declared.limits.TheConstants.{MAX_CHUNK_BYTES}
use Rattle.ov_fields.specs.Fronts.{AreAllBytes}
use Rattle.ov_record.specs.Updates.{SealedUpdate}
use Rattle.ov_history.specs.Asking.{file_named, user_named}
use Rattle.ov_history.specs.Catalogue.{Catalogue}
use Rattle.ov_history.specs.FadingLaws.{IsRight}
use Rattle.ov_history.specs.Masters.{Masters}
use Rattle.ov_history.specs.Places.{living_at}
use Rattle.ov_history.specs.Plain.{PlainHistory}
use Rattle.ov_history.specs.Sealed.{SealedHistory, catalogue_of, stored_of}
use Rattle.ov_history.specs.Sealing.{sealed}
use Rattle.ov_history.proofs.Agreeing.{right_keeps, right_shows}
use Rattle.ov_wire.specs.declared.request.Request.{Request}
use Rattle.ov_wire.specs.declared.request.Request.TheVariants as requests
use Rattle.ov_wire.specs.declared.answer.Answer.{Answer}
use Rattle.ov_wire.specs.declared.answer.Answer.TheVariants as answers
use Rattle.ov_wire.specs.declared.answer.Chained.{Chained}
use Rattle.ov_wire.specs.AnswerReading.{answer_of}
use Rattle.ov_wire.specs.Requests.{HasRequestForm, request_bytes}
use Rattle.ov_wire.proofs.AnswerForms.{read_alike}
use Rattle.ov_protocol.specs.Answers.{Answers, made_by}
use Rattle.ov_protocol.specs.Reading.{AnswersChain, AnswersChunk}
use Rattle.ov_protocol.specs.Serving.{Service, followed, later, served}
use Rattle.ov_protocol.proofs.Leaving.{later-nil}
use Rattle.ov_protocol.proofs.Reading.{replies_are_read}
use Rattle.ov_peer.specs.Asks.{Along, AreRight, Ask}
use Rattle.ov_peer.specs.Tells.{IsReplyAt}
use Rattle.ov_client.specs.Laws.{HoldsRootKeys, IsAsMachine, ReadsAreTheMachines, is_chain}
use Rattle.ov_client.specs.Laws.{last_chain, now_if}
use Rattle.ov_client.specs.Readers.{Reader}
use Rattle.ov_client.specs.Talks.{AsksChain, AsksChunk, Closes, Ends, Goes, IsAfter, Moves, Stage}
use Rattle.ov_client.specs.Talks.{after, asked_at}
use Rattle.ov_client.specs.declared.fault.ClientFault.{ClientFault}
use Rattle.ov_client.specs.declared.fault.ClientFault.TheVariants as client
use Rattle.ov_client.proofs.Fetching.{IsFetching, StandsAt, chain_stands, chunk_stands}

module _ (k : Masters) (r : Reader) (file : List ℕ) (holds : HoldsRootKeys k r) where
  abbrev Stands : Service → Stage → Option SealedHistory → Type 0
  Stands v stage at_one = StandsAt k r file holds v stage at_one

  -- ---- one ask

  -- what was read of a reply: the server's answer, with what it made, or that its disk failed
  read_at : (u : Service) (request : Request) (reply : List ℕ) (made : List SealedUpdate)
      (answer : Answer)
      → HasRequestForm request → AreAllBytes reply → answer_of request reply ≡ Ok answer
      → IsReplyAt u (request_bytes request) reply made
      → (Answers (served u) request answer × (made ≡ made_by request answer))
      ⊎ (answer ≡ answers.DeviceFault)
  read_at u request reply made answer form bytes reads (inl replies) =
      inl (replies_are_read (served u) request reply made answer bytes form replies reads)
  read_at u request reply made answer form bytes reads (inr failed) =
      inr (sym (read_alike request reply answers.DeviceFault answer bytes tt failed.spelled reads))

  module _ (v : Service) (under_k : v.surface ≡ k.surface) (others made : List SealedUpdate)
      (p : PlainHistory) (right : IsRight k p (followed v.history others)) where
    abbrev u : Service
    u = later v others

    catalogue_is : catalogue_of u.surface u.history ≡ catalogue_of k.surface (sealed k p)
    catalogue_is =
        ap (λ (master : List ℕ). catalogue_of master u.history) under_k
        ∙ right_shows k p u.history right.0 right.1

    stored_is : stored_of u.surface u.history ≡ stored_of k.surface (sealed k p)
    stored_is =
        ap (λ (master : List ℕ). stored_of master u.history) under_k
        ∙ right_keeps k p u.history right.0 right.1

    made_nothing : made ≡ [] → later u made ≡ u
    made_nothing none = ap (later u) none ∙ later-nil u

    chain_asked : (tries : List ℕ) (least : ℕ) (reply : List ℕ) (read : Result Answer ℕ)
        → HasRequestForm (requests.Chain r.name file) → AreAllBytes reply
        → answer_of (requests.Chain r.name file) reply ≡ read
        → IsReplyAt u (request_bytes (requests.Chain r.name file)) reply made
        → Stands (later u made) (after r (AsksChain tries least) read) (Some u.history)
    unfolding StandsAt
    chain_asked tries least reply (Err place) form bytes reads at_u = tt
    chain_asked tries least reply (Ok answer) form bytes reads at_u =
        elim (read_at u (requests.Chain r.name file) reply made answer form bytes reads at_u) [
          | inl (is, none) ↦
              subst (λ (w : Service). Stands w (after r (AsksChain tries least) (Ok answer))
              (Some u.history))
              (sym (made_nothing none))
              (chain_stands k r file holds u tries least p right answer
              (subst (λ (d : Catalogue). AnswersChain d (user_named d r.name) (file_named d file)
              answer) catalogue_is is))
          | inr fault ↦
              subst (λ (a : Answer). Stands (later u made) (after r (AsksChain tries least) (Ok a))
              (Some u.history))
              (sym fault) tt
        ]

    chunk_asked : (tries : List ℕ) (c : Chained) (stored : List ℕ) (at_one : Option SealedHistory)
        (f : IsFetching k r file holds v c stored at_one) (reply : List ℕ) (read : Result Answer ℕ)
        → HasRequestForm (requests.Chunk c.file c.generation (length stored) MAX_CHUNK_BYTES)
        → AreAllBytes reply
        → answer_of (requests.Chunk c.file c.generation (length stored) MAX_CHUNK_BYTES)
        reply ≡ read
        → IsReplyAt u (request_bytes
        (requests.Chunk c.file c.generation (length stored) MAX_CHUNK_BYTES)) reply made
        → Stands (later u made) (after r (AsksChunk tries c stored) read) at_one
    unfolding StandsAt
    chunk_asked tries c stored at_one f reply (Err place) form bytes reads at_u = tt
    chunk_asked tries c stored at_one f reply (Ok answer) form bytes reads at_u =
        elim (read_at u (requests.Chunk c.file c.generation (length stored) MAX_CHUNK_BYTES) reply
        made answer form bytes reads at_u) [
          | inl (is, none) ↦
              let shown : Catalogue = catalogue_of k.surface (sealed k p) in
              let at_k : AnswersChunk (living_at shown.files c.file)
              (Some (slice_index_or (stored_of k.surface (sealed k p)) c.file []))
              c.generation (length stored) MAX_CHUNK_BYTES answer =
              subst (λ (t : List (List ℕ)). AnswersChunk (living_at shown.files c.file)
              (Some (slice_index_or t c.file [])) c.generation (length stored) MAX_CHUNK_BYTES answer)
              stored_is
              (subst (λ (d : Catalogue). AnswersChunk (living_at d.files c.file)
              (Some (slice_index_or (stored_of u.surface u.history) c.file [])) c.generation
              (length stored) MAX_CHUNK_BYTES answer)
              catalogue_is is) in
              subst (λ (w : Service). Stands w (after r (AsksChunk tries c stored) (Ok answer))
              at_one)
              (sym (made_nothing none))
              (chunk_stands k r file holds v tries c stored at_one f others p right answer at_k)
          | inr fault ↦
              subst (λ (a : Answer). Stands (later u made)
              (after r (AsksChunk tries c stored) (Ok a)) at_one)
              (sym fault) tt
        ]

    -- the stage after an ask
    asked_stands : (stage next : Stage) (a : Ask) (at_one : Option SealedHistory)
        → Stands v stage at_one → Moves r file stage a next → IsReplyAt u a.request a.reply made
        → Stands (later u made) next (now_if (is_chain a.request) u.history at_one)
    unfolding StandsAt
    asked_stands stage next a at_one stands moves at_u = by_read moves.reads where
      spelled : a.request ≡ request_bytes moves.asks.request
      spelled = moves.asks.spelled

      at_it : IsReplyAt u (request_bytes moves.asks.request) a.reply made
      at_it = subst (λ (frame : List ℕ). IsReplyAt u frame a.reply made) spelled at_u

      by_stage : (s : Stage) → s ≡ stage → IsAfter r stage moves.asks.request a.reply next
          → Stands (later u made) next (now_if (is_chain a.request) u.history at_one)
      by_stage (AsksChain tries least) is moved =
          let request : requests.Chain r.name file ≡ moves.asks.request =
          cc (ap (asked_at r file) is, moves.asks.is_asked) in
          let asked = chain_asked tries least a.reply
          (answer_of (requests.Chain r.name file) a.reply)
          (subst HasRequestForm (sym request) moves.asks.form) moved.bytes refl
          (subst (λ (x : Request). IsReplyAt u (request_bytes x) a.reply made) (sym request)
          at_it) in
          let goes : after r (AsksChain tries least)
          (answer_of (requests.Chain r.name file) a.reply) ≡ next =
          (λ i. after r (is i) (answer_of (request i) a.reply)) ∙ sym moved.moves in
          let kind : is_chain a.request ≡ true =
          ap is_chain (spelled ∙ ap request_bytes (sym request)) in
          subst (λ (b : Bool). Stands (later u made) next (now_if b u.history at_one)) (sym kind)
          (subst (λ (s : Stage). Stands (later u made) s (Some u.history)) goes asked)
      by_stage (AsksChunk tries c stored) is moved =
          let chunk : Request = requests.Chunk c.file c.generation (length stored)
          MAX_CHUNK_BYTES in
          let request : chunk ≡ moves.asks.request =
          cc (ap (asked_at r file) is, moves.asks.is_asked) in
          let f : IsFetching k r file holds v c stored at_one =
          subst (λ (s : Stage). Stands v s at_one) (sym is) stands in
          let asked = chunk_asked tries c stored at_one f a.reply (answer_of chunk a.reply)
          (subst HasRequestForm (sym request) moves.asks.form) moved.bytes refl
          (subst (λ (x : Request). IsReplyAt u (request_bytes x) a.reply made) (sym request)
          at_it) in
          let goes : after r (AsksChunk tries c stored) (answer_of chunk a.reply) ≡ next =
          (λ i. after r (is i) (answer_of (request i) a.reply)) ∙ sym moved.moves in
          let kind : is_chain a.request ≡ false =
          ap is_chain (spelled ∙ ap request_bytes (sym request)) in
          subst (λ (b : Bool). Stands (later u made) next (now_if b u.history at_one)) (sym kind)
          (subst (λ (s : Stage). Stands (later u made) s at_one) goes asked)
      by_stage (Ends result) is moved =
          absurd (let none = ap (asked_at r file) is in cc (none, moves.asks.is_asked))

      by_read : (IsAfter r stage moves.asks.request a.reply next)
          ⊎ (next ≡ Ends (Err client.Memory))
          → Stands (later u made) next (now_if (is_chain a.request) u.history at_one)
      by_read (inl moved) = by_stage stage refl moved
      by_read (inr memory) =
          subst (λ (s : Stage). Stands (later u made) s
          (now_if (is_chain a.request) u.history at_one))
          (sym memory) tt

  -- ---- all asks

  all_stand : (asks : List Ask) (stage last : Stage) (v end : Service)
      (histories : List SealedHistory)
      (at_one : Option SealedHistory)
      → v.surface ≡ k.surface → Stands v stage at_one → Goes r file stage asks last
      → Along v asks histories end → AreRight k histories
      → Stands end last (last_chain at_one asks histories)
  all_stand [] stage last v end [] at_one under_k stands goes along right =
      subst (λ (w : Service). Stands w last at_one) along
      (subst (λ (s : Stage). Stands v s at_one) goes stands)
  all_stand [] stage last v end (g ∷ histories) at_one under_k stands goes along right = absurd
      along
  all_stand (a ∷ asks) stage last v end [] at_one under_k stands goes along right = absurd along
  all_stand (a ∷ asks) stage last v end (g ∷ histories) at_one under_k stands (next, moves, goes)
      (others, made, at_g, at_u, along) ((p, legal, is), right) =
      let here : SealedHistory = followed v.history others in
      let one = asked_stands v under_k others made p
      (subst (λ (h : SealedHistory). IsRight k p h) at_g (legal, is)) stage next a at_one stands
      moves at_u in
      subst (λ (h : SealedHistory). Stands end last
      (last_chain (now_if (is_chain a.request) h at_one) asks histories))
      (sym at_g)
      (all_stand asks next last (later (later v others) made) end histories
      (now_if (is_chain a.request) here at_one) under_k one goes along right)

  -- how a read closes
  closed_so : (end : Service) (last : Stage) (unanswered : Option (List ℕ))
      (result : Result (List ℕ) ClientFault)
      (at_one : Option SealedHistory)
      → Stands end last at_one → Closes r file last unanswered result
      → IsAsMachine k at_one r.name file result
  unfolding StandsAt
  closed_so end last None result at_one stands (inl is) = subst (λ (s : Stage). Stands end s at_one)
      is stands
  closed_so end last None result at_one stands (inr memory) =
      subst (IsAsMachine k at_one r.name file) (sym memory) tt
  closed_so end last (Some frame) result at_one stands (asks, inl link) =
      subst (IsAsMachine k at_one r.name file) (sym link) tt
  closed_so end last (Some frame) result at_one stands (asks, inr memory) =
      subst (IsAsMachine k at_one r.name file) (sym memory) tt

  begins : (v : Service) → Stands v (AsksChain [] 0) None
  unfolding StandsAt
  begins v = tt

pub reads_are_the_machines : ReadsAreTheMachines
reads_are_the_machines k r file asks unanswered result v last histories holds under_k
    (end, goes, closes) along right =
    closed_so k r file holds last end unanswered result (last_chain None asks histories)
    (all_stand k r file holds asks (AsksChain [] 0) end v last histories None under_k
    (begins k r file holds v) goes along right)
    closes
