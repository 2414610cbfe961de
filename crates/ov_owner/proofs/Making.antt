-- What a call leaves of a server that nobody else updates, by what is known of the update that it
-- seals, and of a history with it.
use Rattle.std.proofs.Common.{◌≡◌, ℕ, ◌∙◌, List, [], ◌∷◌, ◌++◌, Option, Some, None, Result, Ok, Err, refl, sym, ap, subst, inl, inr}
use Rattle.std.specs.Prelude.{◌⊎◌, nat_lt, ◌==◌, Bool, true, false, length}
use Rattle.ov_fields.specs.Fronts.{AreAllBytes}
use Rattle.ov_record.specs.Spelling.{HasForm}
use Rattle.ov_record.specs.Updates.{SealedUpdate}
use Rattle.ov_record.specs.Forms.{second_form}
use Rattle.ov_wire.specs.declared.request.Request.{Request}
use Rattle.ov_wire.specs.declared.answer.Answer.{Answer}
use Rattle.ov_wire.specs.declared.answer.Answer.TheVariants as answers
use Rattle.ov_wire.specs.AnswerReading.{answer_of}
use Rattle.ov_wire.specs.Requests.{HasRequestForm, request_bytes}
use Rattle.ov_protocol.specs.Serving.{Service, later, served}
use Rattle.ov_protocol.specs.Answers.{Answers}
use Rattle.ov_protocol.specs.Replies.{MayMake, updates_asked}
use Rattle.ov_protocol.specs.Updating.{spelled_by}
use Rattle.ov_protocol.proofs.Reading.{request_back}
use Rattle.ov_peer.specs.Asks.{Ask}
use Rattle.ov_peer.specs.Tells.{IsReplyAt}
use Rattle.ov_peer.specs.Exchanges.{IsAnswerAt}
use Rattle.ov_peer.proofs.Telling.{answer_at}
use Rattle.ov_peer.specs.Leaving.{reply_makes}
use Rattle.ov_client.proofs.Alone.{same_left}
use Rattle.ov_owner.specs.Alone.{AnsweredAlone, AskedAlone, LeftAlone}
use Rattle.ov_owner.specs.Errands.{Errand}
use Rattle.ov_owner.specs.Talks.{Asks, Closes, Ends, Goes, IsAfter, IsDue, Moves, Sends, Stage, Talks, after as stage_after, after_first, after_update, again_if, sends_if, start, update_request}
use Rattle.ov_owner.specs.declared.limits.TheConstants.{MAX_TRIES}
use Rattle.ov_owner.specs.declared.fault.OwnerFault.{OwnerFault}
use Rattle.ov_owner.specs.declared.fault.OwnerFault.TheVariants as faults
use Rattle.ov_owner.proofs.Stepping.{read_back}

-- what the reply to a request that is sent made is nothing, or what was asked for
may_make : (request : Request) (made : List SealedUpdate) → HasRequestForm request
    → MayMake (request_bytes request) made → (made ≡ []) ⊎ (made ≡ updates_asked (Ok request))
may_make request made form (inl none) = inl none
may_make request made form (inr some) = inr (some ∙ ap updates_asked (request_back request form))

-- ---- what is due

module _ (surface : List ℕ) (e : Errand) where
  pub first_due : (tries : List ℕ) (least : ℕ) (frame : List ℕ)
      (due : IsDue surface e (Asks tries least) frame) → e.first ≡ due.request
  first_due tries least frame due = let same : Some e.first ≡ Some due.request = due.due in cc same

  pub update_due : (tries : List ℕ) (epoch : ℕ) (u : SealedUpdate) (frame : List ℕ)
      (due : IsDue surface e (Sends tries epoch u) frame)
      → update_request surface epoch u ≡ due.request
  update_due tries epoch u frame due =
      let same : Some (update_request surface epoch u) ≡ Some due.request = due.due in cc same

  pub none_due : (r : Result ℕ OwnerFault) (frame : List ℕ) → IsDue surface e (Ends r) frame → ⊥
  none_due r frame due = let none : None ≡ Some due.request = due.due in cc none

module _ (surface : List ℕ) (e : Errand) (no_update : updates_asked (Ok e.first) ≡ [])
    (no_disk : e.sealed answers.DeviceFault ≡ Err (faults.BadReply 0)) (v : Service)
    (Ready : ℕ → SealedUpdate → Type 0)
    (ready : (a : Answer) (epoch : ℕ) (u : SealedUpdate) → Answers (served v) e.first a
    → e.sealed a ≡ Ok (epoch, u) → Ready epoch u)
    (Left : Service → Type 0) (none_left : Left v)
    (one_left : (epoch : ℕ) (u : SealedUpdate) → Ready epoch u → Left (later v (u ∷ []))) where
  -- what is served at a stage
  abbrev pub Stands : Stage → Service → Type 0
  Stands (Asks tries least) w = w ≡ v
  Stands (Sends tries epoch u) w = (w ≡ v) × Ready epoch u
  Stands (Ends result) w = Left w

  -- the first ask makes nothing
  first_makes : (made : List SealedUpdate) → HasRequestForm e.first
      → MayMake (request_bytes e.first) made → made ≡ []
  first_makes made form may = by_cases (may_make e.first made form may) where
    by_cases : (made ≡ []) ⊎ (made ≡ updates_asked (Ok e.first)) → made ≡ []
    by_cases (inl none) = none
    by_cases (inr some) = some ∙ no_update

  stays : (w : Service) (made : List SealedUpdate) → w ≡ v → made ≡ [] → later w made ≡ v
  stays w made same none = same_left w made none ∙ same

  left_so : (w : Service) (made : List SealedUpdate) → w ≡ v → made ≡ [] → Left (later w made)
  left_so w made same none = subst Left (sym (stays w made same none)) none_left

  -- an update makes nothing, or itself
  update_makes : (w : Service) (epoch : ℕ) (u : SealedUpdate) (made : List SealedUpdate)
      → w ≡ v → Ready epoch u → HasForm second_form u
      → HasRequestForm (update_request surface epoch u)
      → MayMake (request_bytes (update_request surface epoch u)) made → Left (later w made)
  update_makes w epoch u made same is form sendable may =
      by_cases (may_make (update_request surface epoch u) made sendable may) where
        by_cases : (made ≡ []) ⊎ (made ≡ updates_asked (Ok (update_request surface epoch u)))
            → Left (later w made)
        by_cases (inl none) = left_so w made same none
        by_cases (inr some) =
            let one : later w made ≡ later v (u ∷ []) =
            λ i. later (same i) ((some ∙ ap spelled_by (read_back u form)) i) in
            subst Left (sym one) (one_left epoch u is)

  -- ---- after the first ask
  module _ (w : Service) (same : w ≡ v) (made : List SealedUpdate) (none : made ≡ []) where
    sends_on : (b : Bool) (tries : List ℕ) (epoch : ℕ) (u : SealedUpdate) → Ready epoch u
        → Stands (sends_if b tries epoch u) (later w made)
    sends_on true tries epoch u is = left_so w made same none
    sends_on false tries epoch u is = (stays w made same none, is)

    told_on : (told : Result (ℕ × SealedUpdate) OwnerFault) (tries : List ℕ) (least : ℕ)
        (answer : Answer) → e.sealed answer ≡ told → IsAnswerAt w e.first answer made
        → Stands (after_first tries least told) (later w made)
    told_on (Err fault) tries least answer is at_w = left_so w made same none
    told_on (Ok (epoch, u)) tries least answer is (inr (disk, may, needs)) =
        let other : e.sealed answer ≡ Err (faults.BadReply 0) = ap e.sealed disk ∙ no_disk in
        absurd cc
    told_on (Ok (epoch, u)) tries least answer is (inl (answered, makes_it)) =
        sends_on (nat_lt epoch least) tries epoch u
        (ready answer epoch u
        (subst (λ (x : Service). Answers (served x) e.first answer) same answered) is)

    read_on : (read : Result Answer ℕ) (reply : List ℕ) (tries : List ℕ) (least : ℕ)
        → HasRequestForm e.first → AreAllBytes reply → answer_of e.first reply ≡ read
        → IsReplyAt w (request_bytes e.first) reply made
        → Stands (stage_after e (Asks tries least) read) (later w made)
    read_on (Err place) reply tries least form bytes is replied = left_so w made same none
    read_on (Ok answer) reply tries least form bytes is replied =
        told_on (e.sealed answer) tries least answer refl
        (answer_at w e.first answer reply made form bytes is replied)

  -- ---- after an update
  module _ (w : Service) (same : w ≡ v) (made : List SealedUpdate) (tries : List ℕ) (epoch : ℕ)
      (u : SealedUpdate) (left : Left (later w made)) where
    again_on : (b : Bool) (tried : List ℕ) (now : ℕ) → made ≡ []
        → Stands (again_if b tried now) (later w made)
    again_on true tried now none = left
    again_on false tried now none = stays w made same none

    answer_on : (answer : Answer) → IsAnswerAt w (update_request surface epoch u) answer made
        → Stands (after_update tries epoch answer) (later w made)
    answer_on (answers.Accepted now) at_w = left
    answer_on (answers.Refused why) at_w = left
    answer_on (answers.Stale now) (inl (answered, makes_it)) =
        again_on (length (tries ++ epoch ∷ []) == MAX_TRIES) (tries ++ epoch ∷ []) now makes_it
    answer_on (answers.Stale now) (inr (disk, may, needs)) = absurd (cc disk)
    answer_on answers.BadTag at_w = left
    answer_on answers.DeviceFault at_w = left
    answer_on answers.NoMemory at_w = left
    answer_on answer at_w = left

    sent_on : (read : Result Answer ℕ) (reply : List ℕ)
        → HasRequestForm (update_request surface epoch u) → AreAllBytes reply
        → answer_of (update_request surface epoch u) reply ≡ read
        → IsReplyAt w (request_bytes (update_request surface epoch u)) reply made
        → Stands (stage_after e (Sends tries epoch u) read) (later w made)
    sent_on (Err place) reply sendable bytes is replied = left
    sent_on (Ok answer) reply sendable bytes is replied =
        answer_on answer
        (answer_at w (update_request surface epoch u) answer reply made sendable bytes is replied)

  -- ---- one ask, and all

  pub one_ask : (stage next : Stage) (a : Ask) (w : Service) (made : List SealedUpdate)
      (moves : Moves surface e stage a next) → Stands stage w
      → IsReplyAt w a.request a.reply made
      → IsAfter e stage moves.asked.request a.reply next → Stands next (later w made)
  one_ask (Ends r) next a w made moves stands replied then =
      absurd (none_due surface e r a.request moves.asked)
  one_ask (Asks tries least) next a w made moves same replied then = by_next then where
    first : e.first ≡ moves.asked.request
    first = first_due surface e tries least a.request moves.asked

    replied_so : IsReplyAt w (request_bytes e.first) a.reply made
    replied_so =
        subst (λ (x : List ℕ). IsReplyAt w x a.reply made)
        (moves.asked.spelled ∙ ap request_bytes (sym first)) replied

    none : made ≡ []
    none = first_makes made moves.asked.form (reply_makes w (request_bytes e.first) a.reply made replied_so)

    by_next : IsAfter e (Asks tries least) moves.asked.request a.reply next
        → Stands next (later w made)
    by_next (inr memory) =
        subst (λ (s : Stage). Stands s (later w made)) (sym memory) (left_so w made same none)
    by_next (inl (bytes, is)) =
        subst (λ (s : Stage). Stands s (later w made))
        (sym (is ∙ ap (λ (r : Request). stage_after e (Asks tries least) (answer_of r a.reply)) (sym first)))
        (read_on w same made none (answer_of e.first a.reply) a.reply tries least moves.asked.form bytes refl replied_so)
  one_ask (Sends tries epoch u) next a w made moves (same, is_ready) replied then = by_next then where
    ours : update_request surface epoch u ≡ moves.asked.request
    ours = update_due surface e tries epoch u a.request moves.asked

    replied_so : IsReplyAt w (request_bytes (update_request surface epoch u)) a.reply made
    replied_so =
        subst (λ (x : List ℕ). IsReplyAt w x a.reply made)
        (moves.asked.spelled ∙ ap request_bytes (sym ours)) replied

    left : Left (later w made)
    left =
        update_makes w epoch u made same is_ready moves.asked.form.0 moves.asked.form.1
        (reply_makes w (request_bytes (update_request surface epoch u)) a.reply made replied_so)

    by_next : IsAfter e (Sends tries epoch u) moves.asked.request a.reply next
        → Stands next (later w made)
    by_next (inr memory) = subst (λ (s : Stage). Stands s (later w made)) (sym memory) left
    by_next (inl (bytes, is)) =
        subst (λ (s : Stage). Stands s (later w made))
        (sym (is ∙ ap (λ (r : Request). stage_after e (Sends tries epoch u) (answer_of r a.reply)) (sym ours)))
        (sent_on w same made tries epoch u left (answer_of (update_request surface epoch u) a.reply) a.reply
        moves.asked.form.1 bytes refl replied_so)

  all_asks : (stage final : Stage) (asks : List Ask) (w m : Service)
      → Stands stage w → Goes surface e stage asks final → AnsweredAlone w asks m
      → Stands final m
  all_asks stage final [] w m stands same alone =
      subst (Stands final) alone (subst (λ (s : Stage). Stands s w) same stands)
  all_asks stage final (a ∷ asks) w m stands (next, moves, goes) (made, replied, alone) =
      all_asks next final asks (later w made) m
      (one_ask stage next a w made moves stands replied moves.then) goes alone

  any_stage : (stage : Stage) (w : Service) → Stands stage w → Left w
  any_stage (Asks tries least) w same = subst Left (sym same) none_left
  any_stage (Sends tries epoch u) w (same, is) = subst Left (sym same) none_left
  any_stage (Ends r) w left = left

  -- an ask that failed
  failed_ask : (stage : Stage) (frame : List ℕ) (w : Service) (made : List SealedUpdate)
      → Stands stage w → IsDue surface e stage frame → MayMake frame made → Left (later w made)
  failed_ask (Ends r) frame w made stands due may = absurd (none_due surface e r frame due)
  failed_ask (Asks tries least) frame w made same due may =
      left_so w made same (first_makes made due.form
      (subst (λ (x : List ℕ). MayMake x made)
      (due.spelled ∙ ap request_bytes (sym (first_due surface e tries least frame due))) may))
  failed_ask (Sends tries epoch u) frame w made (same, is) due may =
      update_makes w epoch u made same is due.form.0 due.form.1
      (subst (λ (x : List ℕ). MayMake x made)
      (due.spelled ∙ ap request_bytes (sym (update_due surface e tries epoch u frame due))) may)

  at_close : (stage : Stage) (o : Option (List ℕ)) (result : Result ℕ OwnerFault) (m last : Service)
      → Stands stage m → Closes surface e stage o result → LeftAlone m o last → Left last
  at_close stage None result m last stands closes left =
      subst Left left (any_stage stage m stands)
  at_close stage (Some frame) result m last stands (due, why) (made, may, left) =
      subst Left left (failed_ask stage frame m made stands due may)

  -- what is served when the call is over
  pub leaves_so : (asks : List Ask) (unanswered : Option (List ℕ)) (result : Result ℕ OwnerFault)
      (last : Service) → Talks surface e asks unanswered result
      → AskedAlone v asks unanswered last → Left last
  leaves_so asks unanswered result last (final, goes, closes) (m, alone, left) =
      at_close final unanswered result m last (all_asks start final asks v m refl goes alone)
      closes left
