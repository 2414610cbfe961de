-- A server's disk goes on with it, answer by answer.
use Rattle.std.proofs.Common.{◌≡◌, ◌∙◌, ◌⊎◌, inl, inr, ℕ, ◌≤◌, Bool, true, false, List, [], ◌∷◌, ◌++◌, Result, Ok, Err, refl, sym, ap, subst, append_assoc, append-nil, true≢false, arith}
use Rattle.std.specs.Prelude.{OnErr, OnOk}
use Rattle.ov_base.specs.declared.memory.Memory.{Memory as NoRoom}
use Rattle.ov_record.specs.Updates.{SealedUpdate}
use Rattle.ov_history.specs.Sealed.{SealedHistory}
use Rattle.ov_disk.specs.Disk.{Image, StaysTold}
use Rattle.ov_disk.specs.Tells.{DiskTells}
use Rattle.ov_disk.proofs.Runs.{started, then_on, weaker}
use Rattle.ov_images.specs.Images.{Keeps, Keys}
use Rattle.ov_wire.specs.declared.request.Request.{Request}
use Rattle.ov_wire.specs.declared.answer.Answer.TheVariants as answers
use Rattle.ov_wire.specs.RequestReading.{request_of}
use Rattle.ov_protocol.specs.Serving.{followed}
use Rattle.ov_protocol.specs.Updating.{spelled_by, updates_in, updates_of}
use Rattle.ov_protocol.specs.Replies.{AnswersRead, made_of, updates_asked}
use Rattle.ov_protocol.proofs.Following.{followed-append}
use Rattle.ov_peer.specs.Disks.{AsksBytes, HasUpdate}
use Rattle.ov_peer.specs.Spellings.{longer_if, says_accepted, spelling_in, spelling_of, with_accepted}
use Rattle.ov_peer.proofs.Following.{followed-nil}
use Rattle.ov_base.specs.Causes.{Rose}
use Rattle.ov_store.specs.Opened.{Opened, Serves}
use Rattle.ov_store.specs.Updating.{IsCallOf}
use Rattle.ov_server.specs.Answering.{AnswersOrFails, FailsUpdate, IsAnswered, IsFaulted, IsNewFault, KeepsWith, LeavesAsked, WritesNothing, serving_of}
use Rattle.ov_server.specs.Following.{Reaches, RepliesAfter}
use Rattle.ov_server.proofs.AnswerKinds.{IsMade, accepted_made, nothing_made, says_so}
use Rattle.ov_server.proofs.Following.{reached_after, replies_ok}
use Rattle.ov_server.proofs.Shown.{serves_with}
use Rattle.ov_server.proofs.Sticking.{has_update}
use Rattle.ov_host.specs.Lasting.{Endures, StoreGoesOn, KeepsAll, KeepsFirst, KeepsSome}

-- ---- counts

rose_from : (first mid last : ℕ) → first ≤ mid → Rose mid last → Rose first last
rose_from first mid last low rose = grind arith

rose_still : (first mid last : ℕ) → Rose first mid → mid ≤ last → Rose first last
rose_still first mid last rose low = grind arith

-- ---- updates, one after the other

updates-push : (list : List (List ℕ)) (spelling : List ℕ) → updates_of (list ++ spelling ∷ []) ≡ updates_of list ++ updates_in spelling
updates-push [] spelling = append-nil (updates_in spelling)
updates-push (first ∷ list) spelling =
    ap (λ us. updates_in first ++ us) (updates-push list spelling)
    ∙ sym (append_assoc (updates_in first) (updates_of list) (updates_in spelling))

-- ---- images

module _ (k : Keys) (g : SealedHistory) (us : List SealedUpdate) (i : Image) where
  -- an image that keeps the history with first ones of these updates keeps it with first ones of
  -- more
  first_more : (made : List SealedUpdate) → KeepsFirst k g us i → KeepsFirst k g (us ++ made) i
  first_more made (first, (more, is), keeps) =
      (first, (more ++ made, ap (λ (l : List SealedUpdate). l ++ made) is ∙ append_assoc first more made), keeps)

  all_first : Keeps k (followed g us) i → KeepsFirst k g us i
  all_first keeps = (us, ([], sym (append-nil us)), keeps)

  -- an image that keeps the history with some of these updates keeps it with some of more, where
  -- the disk hadn't failed
  some_more : (made : List SealedUpdate) (was now : Bool) → was ≡ false → KeepsSome k g us was i → KeepsSome k g (us ++ made) now i
  some_more made was now sound (inl first) = inl (first_more made first)
  some_more made was now sound (inr (inl all)) = inl (first_more made (all_first all))
  some_more made was now sound (inr (inr (bad, one))) = absurd (true≢false (sym bad ∙ sound))

  some_still : (was now : Bool) → was ≡ false → KeepsSome k g us was i → KeepsSome k g us now i
  some_still was now sound (inl first) = inl first
  some_still was now sound (inr (inl all)) = inr (inl all)
  some_still was now sound (inr (inr (bad, one))) = absurd (true≢false (sym bad ∙ sound))

  -- what a crash leaves of an update that was made
  asked_some : (asked made : List SealedUpdate) (now : Bool) → asked ≡ made → KeepsWith k (followed g us) asked i → KeepsSome k g (us ++ made) now i
  asked_some asked made now same (inl before) = inl (first_more made (all_first before))
  asked_some asked made now same (inr after) =
      let whole : followed (followed g us) asked ≡ followed g (us ++ made) =
      followed-append g us asked ∙ ap (λ (l : List SealedUpdate). followed g (us ++ l)) same in
      inr (inl (subst (λ (h : SealedHistory). Keeps k h i) whole after))

  -- what a crash leaves of an update in which the disk failed
  asked_all : (asked : List SealedUpdate) (u : SealedUpdate) (now : Bool) → asked ≡ u ∷ [] → now ≡ true → KeepsWith k (followed g us) asked i
      → KeepsAll k g us now i
  asked_all asked u now same failed (inl before) = inl before
  asked_all asked u now same failed (inr after) =
      let whole : followed (followed g us) asked ≡ followed g (us ++ u ∷ []) =
      followed-append g us asked ∙ ap (λ (l : List SealedUpdate). followed g (us ++ l)) same in
      inr (failed, (u, subst (λ (h : SealedHistory). Keeps k h i) whole after))

module _ {D : Type 0} (tells : DiskTells D) where
  -- a store goes on from itself
  pub begins : (s : Opened D) → Reaches (serving_of s) [] (serving_of s) → StoreGoesOn tells s [] s
  begins s reaches = record {
    reaches = reaches;
    keys = refl;
    same = refl;
    later = omega arith;
    cause = λ sound failed. absurd (true≢false (sym failed ∙ sound));
    endures = λ g serves sound i told.
        let here : (c : Image) → tells.may_leave s.disk c → Keeps s.keys (followed g []) c =
        λ c left. subst (λ (h : SealedHistory). Keeps s.keys h c) (sym (followed-nil g)) (serves.disk sound i told c left) in record {
          any_moment = started tells s.disk (KeepsSome s.keys g [] s.failed) (λ c left. inr (inl (here c left)));
          at_end = λ c left. inl (here c left);
          goes_on = λ same. subst (λ (h : SealedHistory). Serves tells h s) (sym (followed-nil g)) serves;
          told = (i, told);
        };
  }

  -- ---- one answer

  module _ (old new : Opened D) (request reply : List ℕ) (answered : AnswersOrFails tells old new request reply)
      (any : LeavesAsked tells request old new) (call : IsCallOf tells old new (IsNewFault old request reply))
      (start : Opened D) (list : List (List ℕ)) (before : StoreGoesOn tells start list old) where
    -- the updates that were made so far endure in this store
    Lasts : SealedHistory → List SealedUpdate → Opened D → Type 0
    Lasts g us s = Endures tells g us start s

    -- where nothing is written they endure as before
    read_lasts : (g : SealedHistory) (us : List SealedUpdate) → WritesNothing tells old new → Lasts g us old → Lasts g us new
    unfolding Lasts
    read_lasts g us quiet e =
        subst (λ (s : Opened D). Endures tells g us start s) (sym quiet.same) (record {
          any_moment = then_on tells start.disk old.disk new.disk (KeepsSome start.keys g us old.failed)
              (tells.may_leave old.disk) e.any_moment quiet.disk.any_moment (λ c left. inr (e.at_end c left));
          at_end = λ c left. e.at_end c (quiet.disk.no_more c left);
          goes_on = λ sound. serves_with tells old new.disk quiet.disk (followed g us) (e.goes_on sound);
          told = (e.told.0, quiet.disk.reads_same ∙ e.told.1);
        })

    accepted_update : (is : IsAnswered tells old new request reply) → says_accepted reply ≡ true
        → (m : IsMade (request_of request) is.frame.made) × HasUpdate (serving_of old) request m.update
    accepted_update is so =
        let r = is.frame.replies in
        let accepted = says_so r.answer (ap says_accepted (sym r.spelled) ∙ so) in
        let here : AnswersRead (serving_of old) (request_of request) (answers.Accepted accepted.0) =
        subst (AnswersRead (serving_of old) (request_of request)) accepted.1 r.answers in
        let made : is.frame.made ≡ made_of (request_of request) (answers.Accepted accepted.0) =
        r.makes ∙ ap (made_of (request_of request)) accepted.1 in
        let m : IsMade (request_of request) is.frame.made =
        subst (IsMade (request_of request)) (sym made) (accepted_made (serving_of old) (request_of request) accepted.0 here) in
        (m, has_update (serving_of old) request accepted.0 is.frame.made here m)

    -- an update is made
    made_lasts : (g : SealedHistory) (us : List SealedUpdate) (is : IsAnswered tells old new request reply)
        → updates_asked (request_of request) ≡ is.frame.made → old.failed ≡ false → Lasts g us old → Lasts g (us ++ is.frame.made) new
    unfolding Lasts
    made_lasts g us is asked sound e =
        let serves : Serves tells (followed g us) old = e.goes_on sound in
        let told = e.told in
        let still : new.failed ≡ false = is.failed ∙ sound in
        let next : Serves tells (followed g (us ++ is.frame.made)) new =
        subst (λ (h : SealedHistory). Serves tells h new) (followed-append g us is.frame.made) (is.lasts (followed g us) serves) in
        let told_new = is.told told.0 told.1 in
        let so_far = weaker tells start.disk old.disk (KeepsSome start.keys g us old.failed)
        (KeepsSome start.keys g (us ++ is.frame.made) new.failed) e.any_moment
        (λ c. some_more start.keys g us c is.frame.made old.failed new.failed sound) in
        let step = any (followed g us) serves sound told.0 told.1 in record {
          any_moment = then_on tells start.disk old.disk new.disk (KeepsSome start.keys g (us ++ is.frame.made) new.failed)
              (KeepsWith old.keys (followed g us) (updates_asked (request_of request))) so_far step
              (λ c keeps. asked_some start.keys g us c (updates_asked (request_of request)) is.frame.made new.failed asked
              (subst (λ (k : Keys). KeepsWith k (followed g us) (updates_asked (request_of request)) c) before.keys keeps));
          at_end = λ c left.
              inl (subst (λ (k : Keys). Keeps k (followed g (us ++ is.frame.made)) c) (call.0 ∙ before.keys) (next.disk still told_new.0 told_new.1 c left));
          goes_on = λ same. next;
          told = told_new;
        }

    -- the disk fails in an update
    fails_lasts : (g : SealedHistory) (us : List SealedUpdate) → FailsUpdate old new request → StaysTold (tells.reads old.disk) (tells.reads new.disk)
        → old.failed ≡ false → Lasts g us old → Lasts g us new
    unfolding Lasts
    fails_lasts g us fails stays sound e =
        let told = e.told in
        let step = any (followed g us) (e.goes_on sound) sound told.0 told.1 in
        let asked : updates_asked (request_of request) ≡ fails.update ∷ [] = ap updates_asked fails.has.is ∙ ap spelled_by fails.has.spells in
        let here : (c : Image) → KeepsWith old.keys (followed g us) (updates_asked (request_of request)) c → KeepsAll start.keys g us new.failed c =
        λ c keeps. asked_all start.keys g us c (updates_asked (request_of request)) fails.update new.failed asked fails.failed
        (subst (λ (k : Keys). KeepsWith k (followed g us) (updates_asked (request_of request)) c) before.keys keeps) in
        let so_far = weaker tells start.disk old.disk (KeepsSome start.keys g us old.failed)
        (KeepsSome start.keys g us new.failed) e.any_moment (λ c. some_still start.keys g us c old.failed new.failed sound) in record {
          any_moment = then_on tells start.disk old.disk new.disk (KeepsSome start.keys g us new.failed)
              (KeepsWith old.keys (followed g us) (updates_asked (request_of request))) so_far step (λ c keeps. inr (here c keeps));
          at_end = λ c left. here c (step.each c (tells.counts_now new.disk (tells.moment old.disk) c step.later left));
          goes_on = λ same. absurd (true≢false (sym fails.failed ∙ same));
          told = stays told.0 told.1;
        }

    faulted_lasts : (g : SealedHistory) (us : List SealedUpdate) → IsFaulted tells old new request reply → Lasts g us old → Lasts g us new
    faulted_lasts g us is e = by_need is.needs where
      by_failed : (was : Bool) → old.failed ≡ was → FailsUpdate old new request → Lasts g us new
      by_failed true bad fails = read_lasts g us (is.before bad) e
      by_failed false sound fails = fails_lasts g us fails is.told sound e

      by_need : FailsUpdate old new request ⊎ (AsksBytes (serving_of old) request × WritesNothing tells old new) → Lasts g us new
      by_need (inl fails) = by_failed old.failed refl fails
      by_need (inr (asks, quiet)) = read_lasts g us quiet e

    answered_lasts : (so : Bool) → says_accepted reply ≡ so → IsAnswered tells old new request reply → (g : SealedHistory)
        → Lasts g (updates_of list) old → Lasts g (updates_of (longer_if so list (spelling_of request))) new
    answered_lasts true so is g e =
        let one = accepted_update is so in
        let m = one.0 in
        let asked : updates_asked (request_of request) ≡ is.frame.made = ap updates_asked m.is ∙ ap spelled_by m.spells ∙ sym m.makes in
        let spelled : updates_in (spelling_of request) ≡ is.frame.made =
        ap (λ (r : Result Request ℕ). updates_in (spelling_in r)) m.is ∙ ap spelled_by m.spells ∙ sym m.makes in
        let all : updates_of (list ++ spelling_of request ∷ []) ≡ updates_of list ++ is.frame.made =
        updates-push list (spelling_of request) ∙ ap (λ us. updates_of list ++ us) spelled in
        subst (λ (us : List SealedUpdate). Lasts g us new) (sym all) (made_lasts g (updates_of list) is asked (is.sound m.update one.1) e)
    answered_lasts false so is g e =
        let r = is.frame.replies in
        let none : is.frame.made ≡ [] = r.makes ∙ nothing_made (request_of request) r.answer (ap says_accepted (sym r.spelled) ∙ so) in
        read_lasts g (updates_of list) (is.untouched none) e

    lasts_after : (so : Bool) → says_accepted reply ≡ so → AnswersOrFails tells old new request reply → (g : SealedHistory)
        → Lasts g (updates_of list) old → Lasts g (updates_of (longer_if so list (spelling_of request))) new
    lasts_after true so (inl is) g e = answered_lasts true so is g e
    lasts_after false so (inl is) g e = answered_lasts false so is g e
    lasts_after true so (inr is) g e = absurd (true≢false (sym so ∙ ap says_accepted is.spelled))
    lasts_after false so (inr is) g e = faulted_lasts g (updates_of list) is e

    -- the disk failed only where its count rose
    cause_after : start.failed ≡ false → new.failed ≡ true → Rose (tells.faults start.disk) (tells.faults new.disk)
    cause_after sound failed = by_old old.failed refl answered where
      by_old : (was : Bool) → old.failed ≡ was → AnswersOrFails tells old new request reply → Rose (tells.faults start.disk) (tells.faults new.disk)
      by_old true bad is = rose_still (tells.faults start.disk) (tells.faults old.disk) (tells.faults new.disk) (before.cause sound bad) call.2
      by_old false was (inl is) = absurd (true≢false (sym failed ∙ is.failed ∙ was))
      by_old false was (inr is) =
          rose_from (tells.faults start.disk) (tells.faults old.disk) (tells.faults new.disk) before.later (call.3 (is.spelled, λ update. was))

    -- the store goes on by what was accepted
    pub goes_on_after : StoreGoesOn tells start (with_accepted list request reply) new
    unfolding Lasts
    goes_on_after = record {
      reaches = reached_after tells old new request reply answered (serving_of start) list before.reaches;
      keys = call.0 ∙ before.keys;
      same = call.1 ∙ before.same;
      later = omega (arith, before.later, call.2);
      cause = cause_after;
      endures = λ g serves sound i told.
          lasts_after (says_accepted reply) refl answered g (before.endures g serves sound i told);
    }

  -- ---- what each result of a call leaves

  module _ (old new : Opened D) (request reply : List ℕ) where
    pub goes_on_ok : (r : Result (Unit {0}) NoRoom) → OnOk r (AnswersOrFails tells old new request reply)
        → LeavesAsked tells request old new → IsCallOf tells old new (IsNewFault old request reply)
        → (start : Opened D) (list : List (List ℕ)) → StoreGoesOn tells start list old
        → OnOk r (StoreGoesOn tells start (with_accepted list request reply) new)
    goes_on_ok (Ok done) answered any call start list before = goes_on_after old new request reply answered any call start list before
    goes_on_ok (Err why) answered any call start list before = tt

    pub goes_on_err : (r : Result (Unit {0}) NoRoom) → OnErr r ((new ≡ old) × (reply ≡ []))
        → (start : Opened D) (list : List (List ℕ)) → StoreGoesOn tells start list old
        → OnErr r (StoreGoesOn tells start list new)
    goes_on_err (Ok done) same start list before = tt
    goes_on_err (Err why) (same, none) start list before = subst (StoreGoesOn tells start list) (sym same) before

  -- the replies after each result of a call
  pub replies_after : (old new : Opened D) (request reply : List ℕ) (r : Result (Unit {0}) NoRoom) → OnOk r (AnswersOrFails tells old new request reply)
      → (start : Opened D) (list : List (List ℕ)) → StoreGoesOn tells start list old
      → OnOk r (RepliesAfter (serving_of start) list request reply)
  replies_after old new request reply r answered start list before = replies_ok tells old new request reply r answered start list before.reaches
