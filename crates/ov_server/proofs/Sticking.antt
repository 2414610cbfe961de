-- Once its disk failed in an update a server accepts none any more.
use Rattle.std.proofs.Common.{◌≡◌, ◌∙◌, ◌⊎◌, inl, inr, ℕ, Bool, true, false, List, [], Result, Ok, Err, refl, sym, ap, subst, true≢false}
use Rattle.std.proofs.lemmas.Bool.{and_parts}
use Rattle.std.specs.Prelude.{OnErr, OnOk}
use Rattle.ov_base.specs.declared.memory.Memory.{Memory}
use Rattle.ov_record.specs.Updates.{SealedUpdate}
use Rattle.ov_disk.specs.Tells.{DiskTells}
use Rattle.ov_wire.specs.declared.request.Request.{Request}
use Rattle.ov_wire.specs.declared.request.Request.TheVariants as requests
use Rattle.ov_wire.specs.declared.answer.Answer.TheVariants as answers
use Rattle.ov_wire.specs.RequestReading.{request_of}
use Rattle.ov_protocol.specs.Serving.{Serving}
use Rattle.ov_protocol.specs.Updating.{AnswersUpdate, owner_tag}
use Rattle.ov_protocol.specs.Replies.{AnswersRead, made_of}
use Rattle.ov_peer.specs.Disks.{AsksBytes, HasUpdate}
use Rattle.ov_peer.specs.Spellings.{fails_update, reads_update, says_accepted, says_failed}
use Rattle.ov_peer.specs.Tells.{AnswererTells, StaysStuck}
use Rattle.ov_store.specs.Opened.{Opened}
use Rattle.ov_server.specs.Answering.{AnswersOrFails, FailsUpdate, IsAnswered, WritesNothing, serving_of}
use Rattle.ov_server.proofs.AnswerKinds.{IsMade, accepted_made, says_no_fault, says_so}

-- an Accepted is an Update's with the owner's tag, at the server's epoch
pub has_update : (s : Serving) (request : List ℕ) (n : ℕ) (made : List SealedUpdate)
    → AnswersRead s (request_of request) (answers.Accepted n)
    → (m : IsMade (request_of request) made) → HasUpdate s request m.update
has_update s request n made is m =
    let here : AnswersUpdate s.surface s.catalogue m.epoch m.spelling m.tag (answers.Accepted n) =
    subst (λ (r : Result Request ℕ). AnswersRead s r (answers.Accepted n)) m.is is in
    let at_epoch : m.epoch ≡ s.catalogue.epoch = here.1 in record {
      spelling = m.spelling;
      tag = m.tag;
      is = m.is ∙ ap (λ (e : ℕ). Ok (requests.Update e m.spelling m.tag)) at_epoch;
      right = here.0 ∙ ap (λ (e : ℕ). owner_tag s.surface e m.spelling) at_epoch;
      spells = m.spells;
    }

module _ {D : Type 0} (tells : DiskTells D) (old new : Opened D) (request reply : List ℕ) where
  -- what accepts an update had no failed one before
  accepts_sound : IsAnswered tells old new request reply → says_accepted reply ≡ true
      → old.failed ≡ false
  accepts_sound is so =
      let r = is.frame.replies in
      let accepted = says_so r.answer (ap says_accepted (sym r.spelled) ∙ so) in
      let here : AnswersRead (serving_of old) (request_of request) (answers.Accepted accepted.0) =
      subst (AnswersRead (serving_of old) (request_of request)) accepted.1 r.answers in
      let m = accepted_made (serving_of old) (request_of request) accepted.0 here in
      is.sound m.update
      (has_update (serving_of old) request accepted.0
      (made_of (request_of request) (answers.Accepted accepted.0)) here m)

  refuses : AnswersOrFails tells old new request reply → old.failed ≡ true
      → says_accepted reply ≡ false
  refuses answered bad = by_test (says_accepted reply) refl answered where
    by_test : (b : Bool) → says_accepted reply ≡ b → AnswersOrFails tells old new request reply
        → says_accepted reply ≡ false
    by_test false so is = so
    by_test true so (inl is) = absurd (true≢false (sym bad ∙ accepts_sound is so))
    by_test true so (inr is) = absurd (true≢false (sym so ∙ ap says_accepted is.spelled))

  stays : AnswersOrFails tells old new request reply → old.failed ≡ true → new.failed ≡ true
  stays (inl is) bad = is.failed ∙ bad
  stays (inr is) bad = ap (λ (s : Opened D). s.failed) (is.before bad).same ∙ bad

  -- stored bytes are asked for by no update
  no_update : AsksBytes (serving_of old) request → reads_update (request_of request) ≡ true → ⊥
  no_update asks so = true≢false (sym so ∙ ap reads_update asks.is)

  fails : AnswersOrFails tells old new request reply → fails_update request reply ≡ true
      → new.failed ≡ true
  fails answered so = by_case answered where
    both : (says_failed reply ≡ true) × (reads_update (request_of request) ≡ true)
    both = and_parts (says_failed reply) (reads_update (request_of request)) so

    by_need : FailsUpdate old new request
        ⊎ (AsksBytes (serving_of old) request × WritesNothing tells old new) → new.failed ≡ true
    by_need (inl is) = is.failed
    by_need (inr (asks, quiet)) = absurd (no_update asks both.1)

    by_case : AnswersOrFails tells old new request reply → new.failed ≡ true
    by_case (inl is) =
        let r = is.frame.replies in
        absurd (true≢false
        (sym both.0
        ∙ (ap says_failed r.spelled
        ∙ says_no_fault (serving_of old) (request_of request) r.answer r.answers)))
    by_case (inr is) = by_need is.needs

  -- what each result of a call leaves, for an answerer that is stuck where the disk failed
  pub stays_stuck : (answerer : AnswererTells (Opened D))
      → ((s : Opened D) → s.failed ≡ true → answerer.stuck s)
      → ((s : Opened D) → answerer.stuck s → s.failed ≡ true)
      → (r : Result (Unit {0}) Memory)
      → OnOk r (AnswersOrFails tells old new request reply)
      → OnErr r ((new ≡ old) × (reply ≡ [])) → StaysStuck answerer old new request reply r
  stays_stuck answerer into out (Ok done) answered same = record {
    stays = λ bad. into new (stays answered (out old bad));
    refuses = λ bad. refuses answered (out old bad);
    fails = λ so. into new (fails answered so);
  }
  stays_stuck answerer into out (Err why) answered (same, none) =
      λ bad. subst answerer.stuck (sym same) bad
