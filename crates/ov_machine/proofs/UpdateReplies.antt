-- What a server replies to the two asks of an update, and that the second reply ends the call.
use Rattle.std.proofs.Common.{◌≡◌, ◌∙◌, ℕ, ◌+◌, List, [], ◌∷◌, ◌++◌, length, Option, Some, None, Result, Ok, Err, refl, sym, ap, subst, inl, inr}
use Rattle.std.specs.Prelude.{◌⊎◌}
use Rattle.ov_record.specs.Updates.{SealedUpdate}
use Rattle.ov_tokens.specs.Keys.{check_value_of}
use Rattle.ov_script.specs.declared.command.Command.{Command}
use Rattle.ov_script.specs.declared.reply.Reply.{Reply}
use Rattle.ov_script.specs.declared.reply.Reply.TheVariants as replies
use Rattle.ov_history.specs.History.{epoch_of}
use Rattle.ov_history.specs.Layers.{layers_of}
use Rattle.ov_history.specs.Masters.{Masters}
use Rattle.ov_history.specs.Plain.{PlainHistory, history_of, with_plain}
use Rattle.ov_history.specs.Refusals.{IsLegal}
use Rattle.ov_history.specs.Sealed.{catalogue_of}
use Rattle.ov_history.specs.Sealing.{sealed, sealed_update}
use Rattle.ov_history.specs.Sent.{spelled}
use Rattle.ov_history.proofs.Keeping.{kept_shows, kept_stands_for}
use Rattle.ov_model.specs.Step.{after, step, update_step}
use Rattle.ov_wire.specs.declared.request.Request.{Request}
use Rattle.ov_wire.specs.declared.answer.Answer.{Answer}
use Rattle.ov_wire.specs.declared.answer.Answer.TheVariants as answers
use Rattle.ov_wire.specs.AnswerBytes.{answer_bytes}
use Rattle.ov_wire.specs.AnswerReading.{answer_of}
use Rattle.ov_wire.specs.Requests.{HasRequestForm, request_bytes}
use Rattle.ov_protocol.specs.Serving.{IsService, Service, followed, later, served}
use Rattle.ov_protocol.specs.Answers.{Answers, made_by}
use Rattle.ov_protocol.specs.Replies.{Replies}
use Rattle.ov_protocol.specs.Updating.{spelled_by}
use Rattle.ov_protocol.proofs.OneAnswer.{one_answer}
use Rattle.ov_peer.specs.Asks.{Ask}
use Rattle.ov_peer.specs.Tells.{IsReplyAt}
use Rattle.ov_peer.proofs.Needing.{needs_disk}
use Rattle.ov_owner.specs.Alone.{AnsweredAlone}
use Rattle.ov_owner.specs.Errands.{Errand}
use Rattle.ov_owner.specs.Talks.{CanSend, Closes, Ends, Goes, IsAfter, IsDue, Sends, Stage, after as stage_after, update_request}
use Rattle.ov_owner.specs.declared.fault.OwnerFault.{OwnerFault}
use Rattle.ov_owner.specs.declared.fault.OwnerFault.TheVariants as faults
use Rattle.ov_owner.proofs.Doing.{Does}
use Rattle.ov_owner.proofs.Fitting.{reads_back}
use Rattle.ov_owner.proofs.Leaving.{IsReady, is_spelling, nothing_due}
use Rattle.ov_owner.proofs.Stepping.{read_back}
use Rattle.ov_owner.proofs.Telling.{names_after}
use Rattle.ov_transcript.specs.Transcripts.{frames, service_of}
use Rattle.ov_transcript.proofs.Refusing.{still_served}
use Rattle.ov_machine.proofs.Changed.{update_taken}
use Rattle.ov_machine.proofs.Errands.{IsHonest, IsMakeable}
use Rattle.ov_machine.proofs.Following.{spelling_goes_on}
use Rattle.ov_machine.proofs.PutOn.{IsPutOn}
use Rattle.ov_machine.proofs.Quiet.{says}

module _ (k : Masters) (command : Command) (e : Errand) (d : Does k command e) (p : PlainHistory)
    (legal : IsLegal (history_of p)) (is_honest : IsHonest e) where
  abbrev here : Service
  here = service_of k p

  abbrev Ready : ℕ → SealedUpdate → Type 0
  Ready epoch u = IsReady k command e d (check_value_of k.base) p legal epoch u

  is_service : IsService (served here) here
  is_service = record {
    stands = kept_stands_for k p (catalogue_of k.surface (sealed k p)) (legal, refl);
    keeps = refl;
    surface = refl;
    base_check = refl;
  }

  -- the update of the command, as it is sent at this history
  abbrev pub second : Request
  second =
      update_request k.surface (epoch_of (history_of p))
      (spelled (names_after p) (sealed_update k (layers_of (history_of p)) (d.plain p)))

  -- the first reply is the one answer there, and makes nothing
  module _ (form : HasRequestForm e.first) (told : Answer)
      (answered : Answers (served here) e.first told) where
    first_replies : (reply : List ℕ) (made : List SealedUpdate)
        → Replies (served here) (request_bytes e.first) reply made
        → (reply ≡ answer_bytes told) × (later here made ≡ here)
    first_replies reply made given =
        let (a, said, makes) = says (served here) e.first reply made form given in (
          said.spelled ∙ ap answer_bytes (one_answer (served here) here e.first a told is_service refl said.answers answered),
          still_served here e.first reply made form d.makes.no_update given,
        )

    pub first_reply : (reply : List ℕ) (made : List SealedUpdate)
        → IsReplyAt here (request_bytes e.first) reply made
        → (reply ≡ answer_bytes told) × (later here made ≡ here)
    first_reply reply made (inl given) = first_replies reply made given
    first_reply reply made (inr failed) =
        absurd (is_honest.quiet (needs_disk (served here) e.first form failed.needs))

  module _ (epoch : ℕ) (u : SealedUpdate) (ready : Ready epoch u)
      (makeable : IsMakeable (served here).catalogue epoch u) where
    abbrev request : Request
    request = update_request k.surface epoch u

    pub same_update : second ≡ request
    same_update =
        let at_epoch = ready.at_epoch ∙ (kept_shows k p (catalogue_of k.surface (sealed k p)) (legal, refl)).epoch in
        let is = is_spelling k command e d (check_value_of k.base) p legal epoch u ready in
        λ i. update_request k.surface (sym at_epoch i) (is i)

    pub step_is : step p command ≡ (replies.Accepted (epoch_of (history_of p) + 1), with_plain p (d.plain p))
    step_is = d.as_update p ∙ ap (update_step p (d.plain p)) ready.free

    pub made_history : (made : List SealedUpdate) → made ≡ u ∷ []
        → (later here made).history ≡ sealed k (after p command)
    made_history made is =
        ap (followed (sealed k p)) is
        ∙ spelling_goes_on k p (d.plain p) u ready.is_sealed
        ∙ ap (λ (r : Reply × PlainHistory). sealed k r.1) (sym step_is)

    -- A reply to the update ends the call. It says that the update was made, in five bytes; or it is
    -- one byte, of the disk that failed.
    pub record IsUpdateReply (reply : List ℕ) (made : List SealedUpdate) : Type 0 where
      pub result : Result ℕ OwnerFault
      pub ends : stage_after e (Sends [] epoch u) (answer_of request reply) ≡ Ends result
      pub either : ((made ≡ u ∷ []) × (length reply ≡ 5)) ⊎ (length reply ≡ 1)

    pub accepted_reply : CanSend k.surface e (Sends [] epoch u) → (reply : List ℕ) (made : List SealedUpdate)
        → Replies (served here) (request_bytes request) reply made
        → IsUpdateReply reply made × (length reply ≡ 5)
    accepted_reply form reply made given =
        let (a, said, makes) = says (served here) request reply made form.1 given in
        let (n, as_accepted, next, low) = update_taken k.surface (served here).catalogue epoch u a makeable form.0 said.answers said.form in
        let spelled : reply ≡ answer_bytes (answers.Accepted n) = said.spelled ∙ ap answer_bytes as_accepted in
        let five : length reply ≡ 5 = ap length spelled in (
          record {
            result = Ok n;
            ends = ap (stage_after e (Sends [] epoch u)) (reads_back request (answers.Accepted n) reply (next, low) low spelled);
            either = inl (makes ∙ ap (made_by request) as_accepted ∙ ap spelled_by (read_back u form.0), five);
          },
          five,
        )

    pub update_reply : CanSend k.surface e (Sends [] epoch u) → (reply : List ℕ) (made : List SealedUpdate)
        → IsReplyAt here (request_bytes request) reply made → IsUpdateReply reply made
    update_reply form reply made (inl given) = (accepted_reply form reply made given).0
    update_reply form reply made (inr failed) = record {
      result = Err faults.Device;
      ends = ap (stage_after e (Sends [] epoch u)) (reads_back request answers.DeviceFault reply tt tt failed.spelled);
      either = inr (ap length failed.spelled);
    }

    -- behind the end nothing is asked, and nothing more is put
    pub at_end : (r result : Result ℕ OwnerFault) (asks : List Ask) (last : Stage) (o : Option (List ℕ))
        (v w last_served : Service) (put : List ℕ)
        → Goes k.surface e (Ends r) asks last → Closes k.surface e last o result
        → AnsweredAlone v asks w → IsPutOn w o put last_served
        → (frames asks ++ put ≡ []) × (v ≡ last_served)
    at_end r result [] last None v w last_served put goes closes alone (none, same) = (none, alone ∙ same)
    at_end r result [] last (Some frame) v w last_served put goes closes alone on =
        absurd (nothing_due k command e d (check_value_of k.base) p legal r frame
        (subst (λ (s : Stage). IsDue k.surface e s frame) (sym goes) closes.0))
    at_end r result (a ∷ asks) last o v w last_served put goes closes alone on =
        absurd (nothing_due k command e d (check_value_of k.base) p legal r a.request goes.1.asked)

    -- after what is asked at this stage the call is at its end
    pub ends_after : (form : CanSend k.surface e (Sends [] epoch u)) (a : Ask) (made : List SealedUpdate) (next : Stage)
        (other : Request) → request ≡ other → IsUpdateReply a.reply made
        → IsAfter e (Sends [] epoch u) other a.reply next
        → (r : Result ℕ OwnerFault) × (next ≡ Ends r)
    ends_after form a made next other ours replied (inr memory) = (Err faults.Memory, memory)
    ends_after form a made next other ours replied (inl (bytes, is)) = (
      replied.result,
      is ∙ ap (λ (r : Request). stage_after e (Sends [] epoch u) (answer_of r a.reply)) (sym ours) ∙ replied.ends,
    )
