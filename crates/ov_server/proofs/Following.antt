-- A server goes on from where it began by what it accepts.
use Rattle.std.proofs.Common.{◌≡◌, ◌∙◌, inl, inr, ℕ, ◌+◌, Bool, true, false, List, [], ◌∷◌, ◌++◌, length, Result, Ok, Err, refl, sym, ap, subst, arith, append_assoc, length-append, true≢false}
use Rattle.std.specs.Prelude.{OnOk, is_some}
use Rattle.ov_base.specs.declared.memory.Memory.{Memory}
use Rattle.std.proofs.lemmas.List.{append-nil}
use Rattle.ov_record.specs.Updates.{SealedUpdate}
use Rattle.ov_history.specs.Catalogue.{Catalogue}
use Rattle.ov_history.specs.Sealed.{SealedHistory}
use Rattle.ov_disk.specs.Tells.{DiskTells}
use Rattle.ov_wire.specs.declared.request.Request.{Request}
use Rattle.ov_wire.specs.declared.answer.Answer.TheVariants as answers
use Rattle.ov_wire.specs.Frames.{IsFrame}
use Rattle.ov_wire.specs.RequestReading.{request_of}
use Rattle.ov_wire.proofs.AnswerForms.{answer_is_frame}
use Rattle.ov_protocol.specs.Serving.{IsService, Service, Serving, later, served}
use Rattle.ov_protocol.specs.Serving.{stored_followed}
use Rattle.ov_protocol.specs.Updating.{spelled_by, updates_in, updates_of}
use Rattle.ov_protocol.specs.Replies.{AnswersRead, made_of}
use Rattle.ov_protocol.proofs.Following.{later-append}
use Rattle.ov_protocol.proofs.GoingOn.{epoch_later, servers_go_on, services_are_served}
use Rattle.ov_protocol.proofs.Leaving.{later-nil}
use Rattle.ov_protocol.proofs.Reading.{replies_are_frames}
use Rattle.ov_peer.specs.Spellings.{IsUpdate, longer_if, says_accepted, spelling_in, spelling_of, with_accepted}
use Rattle.ov_store.specs.Opened.{Opened, Serves}
use Rattle.ov_server.specs.Answering.{AnswersOrFails, IsAnswered, serving_of}
use Rattle.ov_server.specs.Following.{Reaches, RepliesAfter, RepliesAt}
use Rattle.ov_server.specs.Locally.{needs}
use Rattle.ov_server.proofs.AnswerKinds.{IsMade, accepted_made, nothing_made, says_so}
use Rattle.ov_server.proofs.Alike.{mapped_alike, told_alike}

-- ---- the start

pub served_now : {D : Type 0} (tells : DiskTells D) (s : Opened D) (g : SealedHistory)
    → Serves tells g s → (v : Service) × IsService (serving_of s) v
served_now tells s g serves = (
  record { history = g; surface = s.keys.surface; base_check = s.keys.base_check },
  record {
    stands = serves.catalogue;
    keeps = serves.bytes;
    surface = refl;
    base_check = refl;
  },
)

pub reached_at_once : (s : Serving) → ((v : Service) × IsService s v) → Reaches s [] s
reached_at_once s some = record {
  some = some;
  goes_on = λ v is. subst (IsService s) (sym (later-nil v)) is;
  each = refl;
  told = refl;
}

-- ---- epochs

pub epoch_reached : (start now : Serving) (list : List (List ℕ)) → Reaches start list now
    → now.catalogue.epoch ≡ start.catalogue.epoch + length list
epoch_reached start now list reaches =
    let v : Service = reaches.some.0 in
    let before = reaches.some.1 in
    let after = reaches.goes_on v before in
    let first : start.catalogue.epoch ≡ (served v).catalogue.epoch =
    ap (λ (c : Catalogue). c.epoch) before.stands.1 in
    let last : now.catalogue.epoch ≡ (served (later v (updates_of list))).catalogue.epoch =
    ap (λ (c : Catalogue). c.epoch) after.stands.1 in
    omega (arith, first, last, epoch_later v (updates_of list), reaches.each)

-- ---- updates, one after the other

updates-push : (list : List (List ℕ)) (spelling : List ℕ)
    → updates_of (list ++ spelling ∷ []) ≡ updates_of list ++ updates_in spelling
updates-push [] spelling = append-nil (updates_in spelling)
updates-push (first ∷ list) spelling =
    ap (λ us. updates_in first ++ us) (updates-push list spelling)
    ∙ sym (append_assoc (updates_in first) (updates_of list) (updates_in spelling))

-- ---- replies

module _ {D : Type 0} (tells : DiskTells D) (old new : Opened D) (request reply : List ℕ)
    (answered : AnswersOrFails tells old new request reply) where
  pub is_frame : IsFrame reply
  is_frame = by_case answered where
    by_case : AnswersOrFails tells old new request reply → IsFrame reply
    by_case (inl is) =
        replies_are_frames (serving_of old) request reply is.frame.made is.frame.replies
    by_case (inr is) =
        subst IsFrame (sym is.spelled) (answer_is_frame answers.DeviceFault tt)

  -- ---- what is accepted

  -- the update that is made where the reply says so
  made_if_so : IsAnswered tells old new request reply → says_accepted reply ≡ true
      → (made : List SealedUpdate) × IsMade (request_of request) made
  made_if_so is so =
      let r = is.frame.replies in
      let accepted = says_so r.answer (ap says_accepted (sym r.spelled) ∙ so) in (
        made_of (request_of request) (answers.Accepted accepted.0),
        accepted_made (serving_of old) (request_of request) accepted.0
            (subst (AnswersRead (serving_of old) (request_of request)) accepted.1 r.answers),
      )

  is_made : (is : IsAnswered tells old new request reply)
      → (so : says_accepted reply ≡ true) → is.frame.made ≡ (made_if_so is so).0
  unfolding made_if_so
  is_made is so =
      let r = is.frame.replies in
      r.makes ∙ ap (made_of (request_of request)) (says_so r.answer (ap says_accepted (sym r.spelled) ∙ so)).1

  pub accepts_updates : says_accepted reply ≡ true → IsUpdate request
  accepts_updates so = by_case answered where
    by_case : AnswersOrFails tells old new request reply → IsUpdate request
    by_case (inl is) =
        let made = (made_if_so is so).1 in (made.epoch, made.spelling, made.tag, made.is)
    by_case (inr is) =
        absurd (true≢false (sym so ∙ ap says_accepted is.spelled))

  -- ---- from a start

  module _ (start : Serving) (list : List (List ℕ))
      (reaches : Reaches start list (serving_of old)) where
    at_old : AnswersOrFails tells old new request reply → RepliesAt (serving_of old) request reply
    at_old (inl is) = inl (is.frame.made, is.frame.replies)
    at_old (inr is) = inr (is.spelled, needs tells old new request reply is)

    pub replies_after : RepliesAfter start list request reply
    replies_after v is =
        let here = later v (updates_of list) in
        subst (λ (s : Serving). RepliesAt s request reply)
        (services_are_served (serving_of old) here (reaches.goes_on v is)
        ∙ told_alike old.stored start.stored (served here) reaches.told) (at_old answered)

    -- the stored bytes are told then where they were told at the start
    told_next : (is : IsAnswered tells old new request reply)
        → is_some new.stored ≡ is_some start.stored
    told_next is =
        ap (λ (s : Serving). is_some s.stored) is.frame.next
        ∙ mapped_alike
        (λ (all : List (List ℕ)). stored_followed old.keys.surface old.catalogue all is.frame.made)
        old.stored
        ∙ reaches.told

    -- an update more
    one_more : (is : IsAnswered tells old new request reply) → says_accepted reply ≡ true
        → Reaches start (list ++ spelling_of request ∷ []) (serving_of new)
    one_more is so =
        let (made, m) = made_if_so is so in
        let spelled : updates_in (spelling_of request) ≡ made =
        ap (λ (r : Result Request ℕ). updates_in (spelling_in r)) m.is
        ∙ ap spelled_by m.spells ∙ sym m.makes in
        let all : updates_of (list ++ spelling_of request ∷ []) ≡ updates_of list ++ is.frame.made =
        updates-push list (spelling_of request)
        ∙ ap (λ us. updates_of list ++ us) (spelled ∙ sym (is_made is so)) in record {
          some = reaches.some;
          goes_on = λ v start_is.
              subst (λ (us : List SealedUpdate). IsService (serving_of new) (later v us)) (sym all)
              (subst (IsService (serving_of new)) (later-append v (updates_of list) is.frame.made)
              (servers_go_on (serving_of old) (serving_of new) (later v (updates_of list)) request
              reply is.frame (reaches.goes_on v start_is)));
          each = ap length all ∙ length-append (updates_of list) is.frame.made
              ∙ (λ i. reaches.each i + length ((is_made is so ∙ m.makes) i))
              ∙ sym (length-append list (spelling_of request ∷ []));
          told = told_next is;
        }

    -- no update more
    no_more : (is : IsAnswered tells old new request reply)
        → says_accepted reply ≡ false → Reaches start list (serving_of new)
    no_more is so =
        let r = is.frame.replies in
        let none : is.frame.made ≡ [] =
        r.makes
        ∙ nothing_made (request_of request) r.answer (ap says_accepted (sym r.spelled) ∙ so) in
        record {
          some = reaches.some;
          goes_on = λ v start_is.
              let here = later v (updates_of list) in
              subst (IsService (serving_of new)) (later-nil here)
              (subst (λ (us : List SealedUpdate). IsService (serving_of new) (later here us)) none
              (servers_go_on (serving_of old) (serving_of new) here request reply is.frame
              (reaches.goes_on v start_is)));
          each = reaches.each;
          told = told_next is;
        }

    next : (so : Bool) → says_accepted reply ≡ so
        → AnswersOrFails tells old new request reply
        → Reaches start (longer_if so list (spelling_of request)) (serving_of new)
    next true so (inl is) = one_more is so
    next false so (inl is) = no_more is so
    next true so (inr is) = absurd (true≢false (sym so ∙ ap says_accepted is.spelled))
    next false so (inr is) = subst (Reaches start list) (sym is.same) reaches

    pub reached_after : Reaches start (with_accepted list request reply) (serving_of new)
    reached_after = next (says_accepted reply) refl answered

-- ---- frames and updates, by the result of a call

module _ {D : Type 0} (tells : DiskTells D) (old new : Opened D) (request reply : List ℕ) where
  pub frame_ok : (r : Result (Unit {0}) Memory)
      → OnOk r (AnswersOrFails tells old new request reply) → OnOk r (IsFrame reply)
  frame_ok (Ok done) a = is_frame tells old new request reply a
  frame_ok (Err why) a = tt

  pub accepted_ok : (r : Result (Unit {0}) Memory)
      → OnOk r (AnswersOrFails tells old new request reply)
      → OnOk r (says_accepted reply ≡ true → IsUpdate request)
  accepted_ok (Ok done) a = accepts_updates tells old new request reply a
  accepted_ok (Err why) a = tt

  pub replies_ok : (r : Result (Unit {0}) Memory)
      → OnOk r (AnswersOrFails tells old new request reply)
      → (start : Opened D) (list : List (List ℕ))
      → Reaches (serving_of start) list (serving_of old)
      → OnOk r (RepliesAfter (serving_of start) list request reply)
  replies_ok (Ok done) a start list reaches =
      replies_after tells old new request reply a (serving_of start) list reaches
  replies_ok (Err why) a start list reaches = tt

  pub reached_ok : (r : Result (Unit {0}) Memory)
      → OnOk r (AnswersOrFails tells old new request reply)
      → (start : Opened D) (list : List (List ℕ))
      → Reaches (serving_of start) list (serving_of old)
      → OnOk r
      (Reaches (serving_of start) (with_accepted list request reply) (serving_of new))
  reached_ok (Ok done) a start list reaches =
      reached_after tells old new request reply a (serving_of start) list reaches
  reached_ok (Err why) a start list reaches = tt
