-- The asks of an owner's call are the requests of its command.
use Rattle.std.proofs.Common.{◌≡◌, ℕ, ◌∙◌, Bool, true, false, List, [], ◌∷◌, Result, Ok, Err, refl}
use Rattle.std.proofs.Common.{sym, ap, subst, inl, inr, arith}
use Rattle.std.specs.Prelude.{◌⊎◌, nat_lt}
use Rattle.ov_base.proofs.Tests.{lt_is_false}
use Rattle.ov_fields.specs.Fronts.{AreAllBytes}
use Rattle.ov_record.specs.Updates.{SealedUpdate}
use Rattle.ov_tokens.specs.Keys.{check_value_of}
use Rattle.ov_script.specs.declared.command.Command.{Command}
use Rattle.ov_base.specs.declared.refusal.Refusal.{Refusal}
use Rattle.ov_history.specs.Catalogue.{Catalogue}
use Rattle.ov_history.specs.History.{epoch_of}
use Rattle.ov_history.specs.Layers.{layers_of}
use Rattle.ov_history.specs.Masters.{Masters}
use Rattle.ov_history.specs.Plain.{PlainHistory, history_of}
use Rattle.ov_history.specs.Refusals.{IsLegal}
use Rattle.ov_history.specs.Sealed.{catalogue_of}
use Rattle.ov_history.specs.Sealing.{sealed, sealed_update}
use Rattle.ov_history.specs.Sent.{spelled}
use Rattle.ov_wire.specs.declared.request.Request.{Request}
use Rattle.ov_wire.specs.declared.answer.Answer.{Answer}
use Rattle.ov_wire.specs.declared.answer.Answer.TheVariants as answers
use Rattle.ov_wire.specs.AnswerBytes.{answer_bytes}
use Rattle.ov_wire.specs.AnswerReading.{answer_of}
use Rattle.ov_wire.specs.Requests.{HasRequestForm, request_bytes}
use Rattle.ov_protocol.specs.Serving.{Service, later, served}
use Rattle.ov_protocol.specs.Answers.{Answers}
use Rattle.ov_protocol.specs.Replies.{Replies}
use Rattle.ov_protocol.proofs.Reading.{replies_are_read}
use Rattle.ov_peer.specs.Asks.{Ask}
use Rattle.ov_peer.specs.Tells.{IsReplyAt}
use Rattle.ov_peer.specs.Disks.{MayNeedDisk}
use Rattle.ov_peer.proofs.Needing.{needs_disk}
use Rattle.ov_owner.specs.Errands.{Errand}
use Rattle.ov_owner.specs.Talks.{Asks, Ends, IsAfter, IsDue, Moves, Sends, Stage}
use Rattle.ov_owner.specs.Talks.{after as stage_after, after_first, after_update, sends_if}
use Rattle.ov_owner.specs.Talks.{update_request}
use Rattle.ov_owner.specs.declared.fault.OwnerFault.{OwnerFault}
use Rattle.ov_owner.specs.declared.fault.OwnerFault.TheVariants as faults
use Rattle.ov_owner.proofs.Doing.{Does}
use Rattle.ov_owner.proofs.Fitting.{reads_back}
use Rattle.ov_owner.proofs.Leaving.{IsReady, is_first, is_spelling, is_update, nothing_due}
use Rattle.ov_owner.proofs.Telling.{names_after, shows}
use Rattle.ov_transcript.specs.Transcripts.{left_unless, says_refused, service_of}
use Rattle.ov_transcript.proofs.Engines.{IsNext, IsStepBy}
use Rattle.ov_transcript.proofs.Refusing.{is_read, left_none, refused_kind, still_served}

-- whether a call was cut off
abbrev pub Cut : Stage → Type 0
Cut (Ends (Err faults.Device)) = Unit {0}
Cut (Ends (Err faults.Memory)) = Unit {0}
Cut stage = ⊥

module _ (k : Masters) (command : Command) (e : Errand) (d : Does k command e) (p : PlainHistory)
    (legal : IsLegal (history_of p))
    (refuses : (why : Refusal) → e.sealed (answers.Refused why) ≡ Err (faults.Refused why))
    (no_disk : MayNeedDisk e.first → ⊥) where
  abbrev here : Service
  here = service_of k p

  abbrev c : Catalogue
  c = catalogue_of k.surface (sealed k p)

  abbrev Ready : ℕ → SealedUpdate → Type 0
  Ready epoch u = IsReady k command e d (check_value_of k.base) p legal epoch u

  -- the update of the command, as it is sent at this history
  abbrev pub update_here : Request
  update_here =
      update_request k.surface (epoch_of (history_of p))
      (spelled (names_after p) (sealed_update k (layers_of (history_of p)) (d.plain p)))

  -- what is left to ask at a stage
  abbrev pub Due : Stage → Service → List Request → Type 0
  Due (Asks tries least) v rs = (v ≡ here) × (least ≡ 0) × (rs ≡ e.first ∷ update_here ∷ [])
  Due (Sends tries epoch u) v rs =
      (v ≡ here) × Ready epoch u × (rs ≡ update_request k.surface epoch u ∷ [])
  Due (Ends (Ok n)) v rs = rs ≡ []
  Due (Ends (Err (faults.Refused why))) v rs = rs ≡ []
  Due (Ends (Err fault)) v rs = Unit {0}

  same_update : (epoch : ℕ) (u : SealedUpdate) → Ready epoch u
      → update_here ≡ update_request k.surface epoch u
  same_update epoch u ready =
      let at_epoch = ready.at_epoch ∙ (shows k p legal).epoch in
      let is = is_spelling k command e d (check_value_of k.base) p legal epoch u ready in
      λ i. update_request k.surface (sym at_epoch i) (is i)

  -- ---- the first ask

  module _ (tries : List ℕ) (least : ℕ) (none : least ≡ 0) (a : Ask) (made : List SealedUpdate)
      (form : HasRequestForm e.first)
      (replies : Replies (served here) (request_bytes e.first) a.reply made) where
    nothing_made : later here made ≡ here
    nothing_made = still_served here e.first a.reply made form d.makes.no_update replies

    abbrev left : List Request
    left = left_unless (says_refused a.reply) (update_here ∷ [])

    refused_leaves : (why : Refusal) → a.reply ≡ answer_bytes (answers.Refused why) → left ≡ []
    refused_leaves why is = ap (λ (l : List ℕ). left_unless (says_refused l) (update_here ∷ [])) is

    not_refused : (x : Answer) (told : ℕ × SealedUpdate) (b : Bool) → says_refused a.reply ≡ b
        → a.reply ≡ answer_bytes x → e.sealed x ≡ Ok told
        → left ≡ update_here ∷ []
    not_refused x told false is same sealed_so =
        ap (λ (b : Bool). left_unless b (update_here ∷ [])) is
    not_refused x told true is same sealed_so =
        let (why, refused) = refused_kind x (sym (ap says_refused same) ∙ is) in
        let wrong : Err (faults.Refused why) ≡ Ok told = sym (refuses why)
        ∙ ap e.sealed (sym refused) ∙ sealed_so in
        absurd (cc wrong)

    sends_due : (b : Bool) (epoch : ℕ) (u : SealedUpdate) → b ≡ false → Ready epoch u → left
        ≡ update_here ∷ []
        → Due (sends_if b tries epoch u) (later here made) left
    sends_due true epoch u is ready are = absurd cc
    sends_due false epoch u is ready are =
        (nothing_made, ready, are ∙ ap (λ (r : Request). r ∷ []) (same_update epoch u ready))

    told_due : (told : Result (ℕ × SealedUpdate) OwnerFault) (x : Answer) → e.sealed x ≡ told
        → Answers (served here) e.first x → a.reply ≡ answer_bytes x
        → Due (after_first tries least told) (later here made) left
    told_due (Ok (epoch, u)) x is answered same =
        let (at_epoch, is_sealed, free) =
        d.makes.told (check_value_of k.base) p x epoch u legal answered is in
        sends_due (nat_lt epoch least) epoch u (lt_is_false epoch least (omega (arith, none)))
        (record { at_epoch = at_epoch; is_sealed = is_sealed; free = free })
        (not_refused x (epoch, u) (says_refused a.reply) refl same is)
    told_due (Err (faults.Refused why)) x is answered same =
        let (refused, some) = d.makes.refused (check_value_of k.base) p x why legal answered is in
        refused_leaves why (same ∙ ap answer_bytes refused)
    told_due (Err fault) x is answered same = tt

    read_due : (read : Result Answer ℕ) → AreAllBytes a.reply → answer_of e.first a.reply ≡ read
        → Due (stage_after e (Asks tries least) read) (later here made) left
    read_due (Err place) bytes is = tt
    read_due (Ok x) bytes is =
        told_due (e.sealed x) x refl
        (replies_are_read (served here) e.first a.reply made x bytes form replies is).0
        (is_read (served here) e.first a.reply made x (request_bytes e.first) replies bytes is)

  -- ---- the update

  module _ (tries : List ℕ) (epoch : ℕ) (u : SealedUpdate) (ready : Ready epoch u) (a : Ask)
      (made : List SealedUpdate)
      (form : HasRequestForm (update_request k.surface epoch u)) where
    abbrev request : Request
    request = update_request k.surface epoch u

    answer_due : (x : Answer) → Answers (served here) request x
        → Due (after_update tries epoch x) (later here made) (left_unless (says_refused a.reply) [])
    answer_due (answers.Accepted n) is = left_none (says_refused a.reply)
    answer_due (answers.Refused why) is = left_none (says_refused a.reply)
    answer_due (answers.Stale now) (tagged, other, is) = absurd (other ready.at_epoch)
    answer_due answers.BadTag is = tt
    answer_due answers.DeviceFault is = tt
    answer_due answers.NoMemory is = tt
    answer_due x is = tt

    sent_due : (read : Result Answer ℕ) → AreAllBytes a.reply → answer_of request a.reply ≡ read
        → Replies (served here) (request_bytes request) a.reply made
        → Due (stage_after e (Sends tries epoch u) read) (later here made)
        (left_unless (says_refused a.reply) [])
    sent_due (Err place) bytes is replies = tt
    sent_due (Ok x) bytes is replies =
        answer_due x (replies_are_read (served here) request a.reply made x bytes form replies is).0

  -- ---- each ask

  first_step : (tries : List ℕ) (least : ℕ) (next : Stage) (a : Ask) (made : List SealedUpdate)
      → least ≡ 0
      → Moves k.surface e (Asks tries least) a next → IsReplyAt here a.request a.reply made
      → IsStepBy Due Cut next here (e.first ∷ update_here ∷ []) a made
  first_step tries least next a made none moves replied =
      let ours : e.first ≡ moves.asked.request =
      is_first k command e d (check_value_of k.base) p legal tries least a.request moves.asked in
      let frame : a.request ≡ request_bytes e.first = moves.asked.spelled
      ∙ ap request_bytes (sym ours) in
      let form : HasRequestForm e.first = moves.asked.form in record {
        request = e.first;
        more = update_here ∷ [];
        is_next = refl;
        asked = frame;
        goes_on = inl (by_reply form frame
            (subst (λ (f : List ℕ). IsReplyAt here f a.reply made) frame replied) ours moves.then);
      } where
        by_then : (form : HasRequestForm e.first)
            → Replies (served here) (request_bytes e.first) a.reply made
            → (request : Request) → e.first ≡ request
            → IsAfter e (Asks tries least) request a.reply next
            → Due next (later here made) (left_unless (says_refused a.reply) (update_here ∷ []))
        by_then form replies other ours (inr memory) =
            subst (λ (s : Stage). Due s (later here made)
            (left_unless (says_refused a.reply) (update_here ∷ []))) (sym memory) tt
        by_then form replies other ours (inl (bytes, is)) =
            subst (λ (s : Stage). Due s (later here made)
            (left_unless (says_refused a.reply) (update_here ∷ [])))
            (sym (is ∙ ap (λ (r : Request). stage_after e (Asks tries least) (answer_of r a.reply))
            (sym ours)))
            (read_due tries least none a made form replies (answer_of e.first a.reply) bytes refl)

        by_reply : (form : HasRequestForm e.first) → a.request ≡ request_bytes e.first
            → IsReplyAt here (request_bytes e.first) a.reply made
            → {other : Request} → e.first ≡ other → IsAfter e (Asks tries least) other a.reply next
            → Replies (served here) a.request a.reply made
            × Due next (later here made) (left_unless (says_refused a.reply) (update_here ∷ []))
        by_reply form frame (inr failed) ours then =
            absurd (no_disk (needs_disk (served here) e.first form failed.needs))
        by_reply form frame (inl replies) {other} ours then = (
          subst (λ (f : List ℕ). Replies (served here) f a.reply made) (sym frame) replies,
          by_then form replies other ours then,
        )

  update_step : (tries : List ℕ) (epoch : ℕ) (u : SealedUpdate) (next : Stage) (a : Ask)
      (made : List SealedUpdate)
      → Ready epoch u → Moves k.surface e (Sends tries epoch u) a next
      → IsReplyAt here a.request a.reply made
      → IsStepBy Due Cut next here (update_request k.surface epoch u ∷ []) a made
  update_step tries epoch u next a made ready moves replied =
      let ours : update_request k.surface epoch u ≡ moves.asked.request =
      is_update k command e d (check_value_of k.base) p legal tries epoch u a.request moves.asked in
      let frame : a.request ≡ request_bytes (update_request k.surface epoch u) =
      moves.asked.spelled ∙ ap request_bytes (sym ours) in record {
        request = update_request k.surface epoch u;
        more = [];
        is_next = refl;
        asked = frame;
        goes_on = by_reply frame (subst (λ (f : List ℕ). IsReplyAt here f a.reply made) frame
            replied) ours moves.then;
      } where
        request : Request
        request = update_request k.surface epoch u

        by_then : Replies (served here) (request_bytes (update_request k.surface epoch u)) a.reply
            made
            → (other : Request) → update_request k.surface epoch u ≡ other
            → IsAfter e (Sends tries epoch u) other a.reply next
            → Due next (later here made) (left_unless (says_refused a.reply) [])
        by_then replies other ours (inr memory) =
            subst (λ (s : Stage). Due s (later here made) (left_unless (says_refused a.reply) []))
            (sym memory) tt
        by_then replies other ours (inl (bytes, is)) =
            subst (λ (s : Stage). Due s (later here made) (left_unless (says_refused a.reply) []))
            (sym (is ∙ ap (λ (r : Request). stage_after e (Sends tries epoch u)
            (answer_of r a.reply)) (sym ours)))
            (sent_due tries epoch u ready a made moves.asked.form.1
            (answer_of (update_request k.surface epoch u) a.reply) bytes refl replies)

        by_failed : a.reply ≡ answer_bytes answers.DeviceFault
            → (other : Request) → update_request k.surface epoch u ≡ other
            → IsAfter e (Sends tries epoch u) other a.reply next
            → Cut next
        by_failed failed other ours (inr memory) = subst Cut (sym memory) tt
        by_failed failed other ours (inl (bytes, is)) =
            subst Cut
            (sym (is ∙ ap (λ (r : Request). stage_after e (Sends tries epoch u)
            (answer_of r a.reply)) (sym ours)
            ∙ ap (stage_after e (Sends tries epoch u))
            (reads_back (update_request k.surface epoch u) answers.DeviceFault a.reply tt tt
            failed)))
            tt

        by_reply : a.request ≡ request_bytes (update_request k.surface epoch u)
            → IsReplyAt here (request_bytes (update_request k.surface epoch u)) a.reply made
            → {other : Request} → update_request k.surface epoch u ≡ other
            → IsAfter e (Sends tries epoch u) other a.reply next
            → (Replies (served here) a.request a.reply made
            × Due next (later here made) (left_unless (says_refused a.reply) []))
            ⊎ (MayNeedDisk (update_request k.surface epoch u)
            × (a.reply ≡ answer_bytes answers.DeviceFault) × Cut next)
        by_reply frame (inl replies) {other} ours then =
            inl (
              subst (λ (f : List ℕ). Replies (served here) f a.reply made) (sym frame) replies,
              by_then replies other ours then,
            )
        by_reply frame (inr failed) {other} ours then =
            inr (tt, failed.spelled, by_failed failed.spelled other ours then)

  pub steps : (stage next : Stage) (v : Service) (rs : List Request) (a : Ask)
      (made : List SealedUpdate)
      → Due stage v rs → Moves k.surface e stage a next → IsReplyAt v a.request a.reply made
      → IsStepBy Due Cut next v rs a made
  steps (Ends r) next v rs a made due moves replied =
      absurd (nothing_due k command e d (check_value_of k.base) p legal r a.request moves.asked)
  steps (Asks tries least) next v rs a made (same, none, are) moves replied =
      subst (λ (w : Service). IsStepBy Due Cut next w rs a made) (sym same)
      (subst (λ (l : List Request). IsStepBy Due Cut next here l a made) (sym are)
      (first_step tries least next a made none moves
      (subst (λ (w : Service). IsReplyAt w a.request a.reply made) same replied)))
  steps (Sends tries epoch u) next v rs a made (same, ready, are) moves replied =
      subst (λ (w : Service). IsStepBy Due Cut next w rs a made) (sym same)
      (subst (λ (l : List Request). IsStepBy Due Cut next here l a made) (sym are)
      (update_step tries epoch u next a made ready moves
      (subst (λ (w : Service). IsReplyAt w a.request a.reply made) same replied)))

  -- a call that was cut off asks nothing
  pub cut_due : (stage : Stage) (frame : List ℕ) → Cut stage → IsDue k.surface e stage frame → ⊥
  cut_due (Ends r) frame is asks =
      nothing_due k command e d (check_value_of k.base) p legal r frame asks
  cut_due (Asks tries least) frame is asks = is
  cut_due (Sends tries epoch u) frame is asks = is

  pub nothing_more : (stage next : Stage) (a : Ask) → Cut stage → Moves k.surface e stage a next → ⊥
  nothing_more stage next a is moves = cut_due stage a.request is moves.asked

  -- what is due at a stage is the next request
  pub is_due : (stage : Stage) (v : Service) (rs : List Request) (frame : List ℕ) → Due stage v rs
      → IsDue k.surface e stage frame → IsNext rs frame
  is_due (Ends r) v rs frame due asks =
      absurd (nothing_due k command e d (check_value_of k.base) p legal r frame asks)
  is_due (Asks tries least) v rs frame (same, none, are) asks =
      let ours = is_first k command e d (check_value_of k.base) p legal tries least frame asks in
      record {
        request = e.first;
        more = update_here ∷ [];
        is_next = are;
        form = asks.form;
        asked = asks.spelled ∙ ap request_bytes (sym ours);
      }
  is_due (Sends tries epoch u) v rs frame (same, ready, are) asks =
      let ours = is_update k command e d (check_value_of k.base) p legal tries epoch u frame asks in
      record {
        request = update_request k.surface epoch u;
        more = [];
        is_next = are;
        form = asks.form.1;
        asked = asks.spelled ∙ ap request_bytes (sym ours);
      }
