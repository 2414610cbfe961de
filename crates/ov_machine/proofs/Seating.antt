-- What a traced peer over the machine's server does, ask by ask.
use Rattle.std.proofs.Common.{◌≡◌, ◌∙◌, ℕ, List, [], ◌∷◌, length, Option, Some, None, refl, sym, ap, subst, inl, inr}
use Rattle.std.specs.Io.KnownBytes.{Appends}
use Rattle.std.proofs.KnownBytes.{Appends-nil, Appends-trans}
use Rattle.ov_disk.specs.Tells.{DiskTells}
use Rattle.ov_io.specs.Tells.{SinkTells}
use Rattle.ov_wire.specs.Frames.{framed}
use Rattle.ov_protocol.specs.Serving.{Service, later}
use Rattle.ov_peer.specs.Asks.{Ask, AreAsks, EndsAt, Leads}
use Rattle.ov_peer.specs.Tells.{PeerTells}
use Rattle.ov_peer.specs.Traced.{traced_tells}
use Rattle.ov_peer.specs.Tracing.{TracesFault, unanswered, unasked, unput}
use Rattle.ov_store.specs.Opened.{Opened}
use Rattle.ov_server.specs.Locally.{IsServedBy, answers_alone}
use Rattle.ov_owner.specs.Alone.{AnsweredAlone}
use Rattle.ov_transcript.specs.Talking.{ArePut}
use Rattle.ov_transcript.specs.Transcripts.{frames}
use Rattle.ov_machine.specs.Seats.{IsSeat, LeftBy, served, store_peer}
use Rattle.ov_machine.proofs.KeptLoans.{asks_keep}
use Rattle.ov_machine.proofs.PutOn.{IsPutOn}
use Rattle.ov_machine.proofs.Reading.{take_whole}

module _ {D : Type 0} (tells : DiskTells D) {P : Type 0} (peer : PeerTells P)
    (server : P → Opened D) (put : P → Option (List ℕ)) (loan : P → ℕ)
    (seat : IsSeat tells peer server put loan) where
  pub leads_so : (asks : List Ask) (p m : P) → Leads peer p asks m
      → Leads (store_peer tells) (server p) asks (server m)
  leads_so [] p m same = ap server same
  leads_so (a ∷ asks) p m (n, first, leads) =
      (server n, (seat.asks p n a.request a.reply first).0.peer, leads_so asks n m leads)

  pub left_so : (o : Option (List ℕ)) (m q : P) → EndsAt peer m o q
      → LeftBy tells (server m) o (server q)
  left_so None m q same = ap server same
  left_so (Some request) m q fault = by (seat.fails m q request fault).0 where
    by : TracesFault (store_peer tells) (server m) (server q) (put m) (put q) request
        → LeftBy tells (server m) (Some request) (server q)
    by (unasked same n bytes) = inl same
    by (unanswered same bytes) = inl same
    by (unput reply n asks bytes) = inr (reply, asks)

  -- the sink stays lent as it was
  pub lent_so : (asks : List Ask) (o : Option (List ℕ)) (p q : P) → AreAsks peer p asks o q
      → loan q ≡ loan p
  lent_so =
      asks_keep peer loan (λ p q request reply answered. (seat.asks p q request reply answered).1)
      (λ p q request fault. (seat.fails p q request fault).1)

  -- the store keeps its keys
  keys_lead : (asks : List Ask) (p m : P) → Leads peer p asks m
      → (server m).keys ≡ (server p).keys
  keys_lead [] p m same = ap (λ (x : P). (server x).keys) (sym same)
  keys_lead (a ∷ asks) p m (n, first, leads) =
      keys_lead asks n m leads ∙ (seat.asks p n a.request a.reply first).0.peer.call.0

  keys_end : (o : Option (List ℕ)) (m q : P) → EndsAt peer m o q
      → (server q).keys ≡ (server m).keys
  keys_end None m q same = ap (λ (x : P). (server x).keys) (sym same)
  keys_end (Some request) m q fault = by (seat.fails m q request fault).0 where
    by : TracesFault (store_peer tells) (server m) (server q) (put m) (put q) request
        → (server q).keys ≡ (server m).keys
    by (unasked same n bytes) = ap (λ (x : Opened D). x.keys) same
    by (unanswered same bytes) = ap (λ (x : Opened D). x.keys) same
    by (unput reply n asks bytes) = asks.call.0

  pub keys_so : (asks : List Ask) (o : Option (List ℕ)) (p q : P) → AreAsks peer p asks o q
      → (server q).keys ≡ (server p).keys
  keys_so asks o p q (m, leads, ends) = keys_end o m q ends ∙ keys_lead asks p m leads

  -- ---- what is put

  -- the frames of the asks that were answered
  pub frames_put : (asks : List Ask) (p m : P) → Leads peer p asks m
      → Appends (put p) (put m) (frames asks)
  frames_put [] p m same =
      subst (λ (x : P). Appends (put p) (put x) []) same (Appends-nil (put p))
  frames_put (a ∷ asks) p m (n, first, leads) =
      Appends-trans (put p) (put n) (put m) _ _ (seat.asks p n a.request a.reply first).0.put
      (frames_put asks n m leads)

  -- the frames of the ask that failed, as far as they were put, and what is served then
  pub end_on : (o : Option (List ℕ)) (m q : P) (w : Service) → IsServedBy (server m) w
      → EndsAt peer m o q
      → (bytes : List ℕ) × (last : Service) × Appends (put m) (put q) bytes × IsPutOn w o bytes last
      × IsServedBy (server q) last
  end_on None m q w serves same = (
    [],
    w,
    subst (λ (x : P). Appends (put m) (put x) []) same (Appends-nil (put m)),
    (refl, refl),
    subst (λ (x : P). IsServedBy (server x) w) same serves,
  )
  end_on (Some request) m q w serves fault = by (seat.fails m q request fault).0 where
    by : TracesFault (store_peer tells) (server m) (server q) (put m) (put q) request
        → (bytes : List ℕ) × (last : Service) × Appends (put m) (put q) bytes
        × IsPutOn w (Some request) bytes last × IsServedBy (server q) last
    by (unasked same n bytes) =
        (_, w, bytes, inl (n, refl, refl), subst (λ (s : Opened D). IsServedBy s w) (sym same) serves)
    by (unanswered same bytes) = (
      _,
      w,
      bytes,
      inl (length (framed request), sym (take_whole (framed request) (length (framed request)) refl), refl),
      subst (λ (s : Opened D). IsServedBy s w) (sym same) serves,
    )
    by (unput reply n asks bytes) =
        let (made, at_w, then) = answers_alone tells (server m) (server q) request reply w
        asks.answer serves in
        (_, later w made, bytes, inr (reply, made, n, at_w, refl, refl), then)

  pub are_put : (o : Option (List ℕ)) (w last : Service) (bytes : List ℕ) → IsPutOn w o bytes last
      → ArePut w o bytes
  are_put None w last bytes on = on.0
  are_put (Some request) w last bytes (inl (n, is, same)) = inl (n, is)
  are_put (Some request) w last bytes (inr (reply, made, n, replied, is, then)) =
      inr (reply, made, n, replied, is)

  pub end_put : (o : Option (List ℕ)) (m q : P) (w : Service) → IsServedBy (server m) w
      → EndsAt peer m o q
      → (bytes : List ℕ) × Appends (put m) (put q) bytes × ArePut w o bytes
  end_put o m q w serves ends =
      let (bytes, last, put_it, on, then) = end_on o m q w serves ends in
      (bytes, put_it, are_put o w last bytes on)

  -- what is served goes on by what the asks made
  pub alone_so : (asks : List Ask) (p m : P) (v : Service) → IsServedBy (server p) v
      → Leads peer p asks m
      → (w : Service) × AnsweredAlone v asks w × IsServedBy (server m) w
  alone_so [] p m v serves same =
      (v, refl, subst (λ (x : P). IsServedBy (server x) v) same serves)
  alone_so (a ∷ asks) p m v serves (n, first, leads) =
      let one = (seat.asks p n a.request a.reply first).0.peer in
      let (made, at_v, then) = answers_alone tells (server p) (server n) a.request a.reply v
      one.answer serves in
      let (w, alone, last) = alone_so asks n m (later v made) then leads in
      (w, (made, at_v, alone), last)

  -- some bytes were put
  grew_at : (o : Option (List ℕ)) (m q : P) → EndsAt peer m o q
      → (bytes : List ℕ) × Appends (put m) (put q) bytes
  grew_at None m q same =
      ([], subst (λ (x : P). Appends (put m) (put x) []) same (Appends-nil (put m)))
  grew_at (Some request) m q fault = by (seat.fails m q request fault).0 where
    by : TracesFault (store_peer tells) (server m) (server q) (put m) (put q) request
        → (bytes : List ℕ) × Appends (put m) (put q) bytes
    by (unasked same n bytes) = (_, bytes)
    by (unanswered same bytes) = (_, bytes)
    by (unput reply n asks bytes) = (_, bytes)

  pub grew_so : (asks : List Ask) (o : Option (List ℕ)) (p q : P) → AreAsks peer p asks o q
      → (bytes : List ℕ) × Appends (put p) (put q) bytes
  grew_so asks o p q (m, leads, ends) =
      let more = grew_at o m q ends in
      (_, Appends-trans (put p) (put m) (put q) _ _ (frames_put asks p m leads) more.1)

-- ---- the peer that a step makes

module _ {D : Type 0} (tells : DiskTells D) {M T : Type 0} (lent : PeerTells M) (sink : SinkTells T)
    (server : M → Opened D)
    (asks : (p q : M) (request reply : List ℕ) → lent.asked p request reply q
    → served tells (server p) request reply (server q))
    (fails : (p q : M) (request : List ℕ) → lent.failed p request q → server q ≡ server p) where
  fault_so : (p q : M) (was now : Option (List ℕ)) (request : List ℕ)
      → TracesFault lent p q was now request
      → TracesFault (store_peer tells) (server p) (server q) was now request
  fault_so p q was now request (unasked same n bytes) = unasked (ap server same) n bytes
  fault_so p q was now request (unanswered fault bytes) = unanswered (fails p q request fault) bytes
  fault_so p q was now request (unput reply n answered bytes) =
      unput reply n (asks p q request reply answered) bytes

  -- a traced peer over a lent server is one of these
  pub traced_seat : IsSeat tells (traced_tells lent sink) (λ p. server p.peer)
      (λ p. sink.written p.sink) (λ p. sink.borrow p.sink)
  traced_seat = record {
    asks = λ p q request reply a. (
      record { peer = asks p.peer q.peer request reply a.0.peer; put = a.0.put },
      a.1,
    );
    fails = λ p q request f.
        (fault_so p.peer q.peer (sink.written p.sink) (sink.written q.sink) request f.0, f.1);
  }
