-- As many bytes were put as the transcript of an update has: its server made it.
use Rattle.std.proofs.Common.{◌≡◌, ◌∙◌, ℕ, ◌+◌, Bool, List, [], ◌∷◌, ◌++◌, length, length-append, take, Option, Some, None, Result, Ok, Err, refl, sym, ap, subst, inl, inr, arith}
use Rattle.std.specs.Prelude.{◌⊎◌}
use Rattle.ov_record.specs.Updates.{SealedUpdate}
use Rattle.ov_tokens.specs.Keys.{check_value_of}
use Rattle.ov_script.specs.declared.command.Command.{Command}
use Rattle.ov_history.specs.Masters.{Masters}
use Rattle.ov_history.specs.Plain.{PlainHistory, history_of}
use Rattle.ov_history.specs.Refusals.{IsLegal}
use Rattle.ov_history.specs.Sealing.{sealed}
use Rattle.ov_history.proofs.Sealing.{sealed_is_sealed}
use Rattle.ov_model.specs.Step.{after}
use Rattle.ov_wire.specs.declared.request.Request.{Request}
use Rattle.ov_wire.specs.declared.answer.Answer.{Answer}
use Rattle.ov_wire.specs.AnswerBytes.{answer_bytes}
use Rattle.ov_wire.specs.AnswerForm.{HasAnswerForm}
use Rattle.ov_wire.specs.AnswerReading.{answer_of}
use Rattle.ov_wire.specs.Frames.{framed}
use Rattle.ov_wire.specs.Requests.{HasRequestForm, request_bytes}
use Rattle.ov_protocol.specs.Serving.{Service, later, served}
use Rattle.ov_protocol.specs.Answers.{Answers}
use Rattle.ov_peer.specs.Asks.{Ask}
use Rattle.ov_peer.specs.Tells.{IsReplyAt}
use Rattle.ov_owner.specs.Alone.{AnsweredAlone}
use Rattle.ov_owner.specs.Errands.{Errand}
use Rattle.ov_owner.specs.Talks.{CanSend, Closes, Ends, Goes, IsAfter, IsDue, Sends, Stage, after as stage_after, after_first, sends_if, start, update_request}
use Rattle.ov_owner.specs.declared.fault.OwnerFault.{OwnerFault}
use Rattle.ov_owner.specs.declared.fault.OwnerFault.TheVariants as faults
use Rattle.ov_owner.proofs.Doing.{Does}
use Rattle.ov_owner.proofs.Fitting.{reads_back}
use Rattle.ov_owner.proofs.Leaving.{IsReady, is_first, is_update}
use Rattle.ov_base.proofs.Tests.{lt_is_false}
use Rattle.ov_transcript.specs.Transcripts.{frames, service_of}
use Rattle.ov_machine.proofs.Errands.{IsHonest, IsMakeable}
use Rattle.ov_machine.proofs.PutOn.{IsPutOn, ask_length, failed_short, front_short}
use Rattle.ov_machine.proofs.UpdateReplies.{at_end, ends_after, first_reply, made_history, update_reply}

module _ (k : Masters) (command : Command) (e : Errand) (d : Does k command e) (p : PlainHistory)
    (legal : IsLegal (history_of p)) (is_honest : IsHonest e) (epoch : ℕ) (u : SealedUpdate)
    (ready : IsReady k command e d (check_value_of k.base) p legal epoch u)
    (makeable : IsMakeable (served (service_of k p)).catalogue epoch u) where
  abbrev here : Service
  here = service_of k p

  abbrev request : Request
  request = update_request k.surface epoch u

  abbrev AsSent : Type 0
  AsSent = CanSend k.surface e (Sends [] epoch u)

  -- the bytes that were put are those of the request, of a reply of `n` bytes, and of their length fields
  module _ (last_served : Service) (n : ℕ) (five : AsSent → n ≡ 5) where
    abbrev Wanted : Type 0
    Wanted = last_served.history ≡ sealed k (after p command)

    -- the update failed: its reply was lost, or never came
    failed_put : (w : Service) (frame put : List ℕ) → AsSent → here ≡ w → frame ≡ request_bytes request
        → IsPutOn w (Some frame) put last_served
        → length put ≡ 8 + length (request_bytes request) + n → Wanted
    failed_put w frame put form alone spelled (inl (count, is, same)) size =
        let long : length frame ≡ length (request_bytes request) = ap length spelled in
        let short = front_short count frame in
        let all : length put ≡ length (take count (framed frame)) = ap length is in
        absurd (omega (arith, short, all, long, size))
    failed_put w frame put form alone spelled (inr (reply, made, count, replied, is, then)) size =
        let answer = update_reply k command e d p legal is_honest epoch u ready makeable form reply made
        (subst (λ (x : List ℕ). IsReplyAt here x reply made) spelled
        (subst (λ (x : Service). IsReplyAt x frame reply made) (sym alone) replied)) in
        by_answer answer.either where
          by_answer : ((made ≡ u ∷ []) × (length reply ≡ 5)) ⊎ (length reply ≡ 1) → Wanted
          by_answer (inl (makes, bytes)) =
              ap (λ (x : Service). x.history) (sym then ∙ ap (λ (x : Service). later x made) (sym alone))
              ∙ made_history k command e d p legal is_honest epoch u ready makeable made makes
          by_answer (inr one) =
              let long : length frame ≡ length (request_bytes request) = ap length spelled in
              let short = failed_short frame reply count in
              let all : length put ≡ length (framed frame ++ take count (framed reply)) = ap length is in
              let exact = five form in
              absurd (omega (arith, short, all, long, size, one, exact))

    -- the update was replied to, and nothing was put behind that
    replied_put : (a : Ask) (made : List SealedUpdate) (asks : List Ask) (put : List ℕ) → AsSent
        → a.request ≡ request_bytes request → frames asks ++ put ≡ [] → later here made ≡ last_served
        → length (frames (a ∷ asks) ++ put) ≡ 8 + length (request_bytes request) + n
        → ((made ≡ u ∷ []) × (length a.reply ≡ 5)) ⊎ (length a.reply ≡ 1) → Wanted
    replied_put a made asks put form spelled none same size (inl (makes, bytes)) =
        ap (λ (x : Service). x.history) (sym same) ∙ made_history k command e d p legal is_honest epoch u ready makeable made makes
    replied_put a made asks put form spelled none same size (inr one) =
        let long : length a.request ≡ length (request_bytes request) = ap length spelled in
        let empty : length (frames asks ++ put) ≡ 0 = ap length none in
        let rest = length-append (frames asks) put in
        let all = length-append (frames (a ∷ asks)) put in
        let first = ask_length a asks in
        let exact = five form in
        absurd (omega (arith, long, empty, rest, all, first, size, one, exact))

    -- an update is due, and as many bytes were put as its frames have
    from_sends : (asks : List Ask) (last : Stage) (o : Option (List ℕ)) (result : Result ℕ OwnerFault)
        (w : Service) (put : List ℕ)
        → Goes k.surface e (Sends [] epoch u) asks last → Closes k.surface e last o result
        → AnsweredAlone here asks w → IsPutOn w o put last_served
        → length (frames asks ++ put) ≡ 8 + length (request_bytes request) + n → Wanted
    from_sends [] last None result w put goes closes alone (none, same) size =
        let empty : length put ≡ 0 = ap length none in
        absurd (omega (arith, size, empty))
    from_sends [] last (Some frame) result w put goes (at_last, why) alone on size =
        let due = subst (λ (s : Stage). IsDue k.surface e s frame) (sym goes) at_last in
        let spelled : frame ≡ request_bytes request =
        due.spelled ∙ ap request_bytes (sym (is_update k command e d (check_value_of k.base) p legal [] epoch u frame due)) in
        failed_put w frame put due.form alone spelled on size
    from_sends (a ∷ asks) last o result w put (next, moves, goes) closes (made, replied, alone) on size =
        let due = moves.asked in
        let ours = is_update k command e d (check_value_of k.base) p legal [] epoch u a.request due in
        let spelled : a.request ≡ request_bytes request = due.spelled ∙ ap request_bytes (sym ours) in
        let answer = update_reply k command e d p legal is_honest epoch u ready makeable due.form a.reply made
        (subst (λ (x : List ℕ). IsReplyAt here x a.reply made) spelled replied) in
        let (r, ends) = ends_after k command e d p legal is_honest epoch u ready makeable due.form a made next due.request ours answer moves.then in
        let (none, same) = at_end k command e d p legal is_honest epoch u ready makeable r result asks last o (later here made) w last_served put
        (subst (λ (s : Stage). Goes k.surface e s asks last) ends goes) closes alone on in
        replied_put a made asks put due.form spelled none same size answer.either

    -- ---- from the first ask on

    sends_on : after_first [] 0 (Ok (epoch, u)) ≡ Sends [] epoch u
    sends_on = ap (λ (b : Bool). sends_if b [] epoch u) (lt_is_false epoch 0 (omega arith))

    module _ (first_form : HasRequestForm e.first) (told : Answer)
        (answered : Answers (served here) e.first told) (told_form : HasAnswerForm told)
        (is_sealed : e.sealed told ≡ Ok (epoch, u)) where
      -- all that is put of the transcript
      abbrev size_of : ℕ
      size_of =
          16 + length (request_bytes e.first) + length (answer_bytes told)
          + length (request_bytes request) + n

      first_failed : (w : Service) (frame put : List ℕ) → here ≡ w → frame ≡ request_bytes e.first
          → IsPutOn w (Some frame) put last_served → length put ≡ size_of → Wanted
      first_failed w frame put alone spelled (inl (count, is, same)) size =
          let long : length frame ≡ length (request_bytes e.first) = ap length spelled in
          let short = front_short count frame in
          let all : length put ≡ length (take count (framed frame)) = ap length is in
          absurd (omega (arith, short, all, long, size))
      first_failed w frame put alone spelled (inr (reply, made, count, replied, is, then)) size =
          let answer = first_reply k command e d p legal is_honest first_form told answered reply made
          (subst (λ (x : List ℕ). IsReplyAt here x reply made) spelled
          (subst (λ (x : Service). IsReplyAt x frame reply made) (sym alone) replied)) in
          let long : length frame ≡ length (request_bytes e.first) = ap length spelled in
          let told_long : length reply ≡ length (answer_bytes told) = ap length answer.0 in
          let short = failed_short frame reply count in
          let all : length put ≡ length (framed frame ++ take count (framed reply)) = ap length is in
          absurd (omega (arith, short, all, long, told_long, size))

      first_next : (a : Ask) (next : Stage) (other : Request) → e.first ≡ other
          → a.reply ≡ answer_bytes told → IsAfter e start other a.reply next
          → (next ≡ Ends (Err faults.Memory)) ⊎ (next ≡ Sends [] epoch u)
      first_next a next other ours replied (inr memory) = inl memory
      first_next a next other ours replied (inl (bytes, is)) =
          let read : answer_of e.first a.reply ≡ Ok told =
          reads_back e.first told a.reply
          (is_honest.fits (served here) (sealed k p) (sealed_is_sealed k p legal, refl) told answered told_form)
          told_form replied in
          inr
          (is ∙ ap (λ (r : Request). stage_after e start (answer_of r a.reply)) (sym ours)
          ∙ ap (stage_after e start) read ∙ ap (after_first [] 0) is_sealed ∙ sends_on)

      -- as many bytes were put as the transcript has
      pub from_start : (asks : List Ask) (last : Stage) (o : Option (List ℕ)) (result : Result ℕ OwnerFault)
          (w : Service) (put : List ℕ)
          → Goes k.surface e start asks last → Closes k.surface e last o result
          → AnsweredAlone here asks w → IsPutOn w o put last_served
          → length (frames asks ++ put) ≡ size_of → Wanted
      from_start [] last None result w put goes closes alone (none, same) size =
          let empty : length put ≡ 0 = ap length none in
          absurd (omega (arith, size, empty))
      from_start [] last (Some frame) result w put goes (at_last, why) alone on size =
          let due = subst (λ (s : Stage). IsDue k.surface e s frame) (sym goes) at_last in
          let spelled : frame ≡ request_bytes e.first =
          due.spelled ∙ ap request_bytes (sym (is_first k command e d (check_value_of k.base) p legal [] 0 frame due)) in
          first_failed w frame put alone spelled on size
      from_start (a ∷ asks) last o result w put (next, moves, goes) closes (made, replied, alone) on size =
          let due = moves.asked in
          let ours = is_first k command e d (check_value_of k.base) p legal [] 0 a.request due in
          let spelled : a.request ≡ request_bytes e.first = due.spelled ∙ ap request_bytes (sym ours) in
          let answer = first_reply k command e d p legal is_honest first_form told answered a.reply made
          (subst (λ (x : List ℕ). IsReplyAt here x a.reply made) spelled replied) in
          let long : length a.request ≡ length (request_bytes e.first) = ap length spelled in
          let told_long : length a.reply ≡ length (answer_bytes told) = ap length answer.0 in
          let rest = length-append (frames asks) put in
          let all = length-append (frames (a ∷ asks)) put in
          let first = ask_length a asks in
          let left : length (frames asks ++ put) ≡ 8 + length (request_bytes request) + n =
          omega (arith, long, told_long, rest, all, first, size) in
          by_next left (first_next a next due.request ours answer.0 moves.then) where
            by_next : length (frames asks ++ put) ≡ 8 + length (request_bytes request) + n
                → (next ≡ Ends (Err faults.Memory)) ⊎ (next ≡ Sends [] epoch u) → Wanted
            by_next left (inl ends) =
                let (none, same) = at_end k command e d p legal is_honest epoch u ready makeable (Err faults.Memory) result asks last o (later here made) w last_served put
                (subst (λ (s : Stage). Goes k.surface e s asks last) ends goes) closes alone on in
                let empty : length (frames asks ++ put) ≡ 0 = ap length none in
                absurd (omega (arith, left, empty))
            by_next left (inr sends) =
                let spelled : a.request ≡ request_bytes e.first =
                moves.asked.spelled ∙ ap request_bytes (sym (is_first k command e d (check_value_of k.base) p legal [] 0 a.request moves.asked)) in
                let still = (first_reply k command e d p legal is_honest first_form told answered a.reply made
                (subst (λ (x : List ℕ). IsReplyAt here x a.reply made) spelled replied)).1 in
                from_sends asks last o result w put
                (subst (λ (s : Stage). Goes k.surface e s asks last) sends goes) closes
                (subst (λ (v : Service). AnsweredAlone v asks w) still alone) on left
