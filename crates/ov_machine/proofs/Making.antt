-- Where the whole transcript of an update was put, its server made the update.
use Rattle.std.proofs.Common.{◌≡◌, ◌∙◌, ℕ, List, [], ◌∷◌, ◌++◌, length, Option, Some, None, Result, Err, refl, sym, ap, subst, inl, inr, arith}
use Rattle.std.specs.Prelude.{◌⊎◌}
use Rattle.ov_base.specs.declared.refusal.Refusal.{Refusal}
use Rattle.ov_tokens.specs.Keys.{check_value_of}
use Rattle.ov_script.specs.declared.command.Command.{Command}
use Rattle.ov_script.specs.declared.command.Command.TheVariants as commands
use Rattle.ov_script.specs.declared.reply.Reply.{Reply}
use Rattle.ov_history.specs.Masters.{Masters}
use Rattle.ov_history.specs.Plain.{PlainHistory, PlainUpdate, history_of, with_plain}
use Rattle.ov_history.specs.Refusals.{IsLegal}
use Rattle.ov_history.specs.Sealing.{sealed}
use Rattle.ov_model.specs.Step.{after, update_step}
use Rattle.ov_wire.specs.declared.request.Request.{Request}
use Rattle.ov_wire.specs.declared.answer.Answer.{Answer}
use Rattle.ov_wire.specs.declared.answer.Answer.TheVariants as answers
use Rattle.ov_wire.specs.AnswerBytes.{answer_bytes}
use Rattle.ov_wire.specs.AnswerForm.{HasAnswerForm}
use Rattle.ov_wire.specs.Requests.{HasRequestForm, request_bytes}
use Rattle.ov_protocol.specs.Serving.{Service, later, served}
use Rattle.ov_protocol.specs.Answers.{Answers}
use Rattle.ov_protocol.specs.Replies.{Replies}
use Rattle.ov_peer.specs.Asks.{Ask}
use Rattle.ov_owner.specs.Alone.{AnsweredAlone}
use Rattle.ov_owner.specs.Errands.{Errand, creating, enrolling, granting, removing, replacing, revoking}
use Rattle.ov_owner.specs.Steps.{IsErrandFor}
use Rattle.ov_owner.specs.Talks.{Closes, Goes, IsDue, Stage, Talks, start, update_request}
use Rattle.ov_owner.specs.declared.fault.OwnerFault.{OwnerFault}
use Rattle.ov_owner.specs.declared.fault.OwnerFault.TheVariants as faults
use Rattle.ov_owner.proofs.Doing.{Does, create_does, enrol_does, grant_does, remove_does, replace_does, revoke_does}
use Rattle.ov_owner.proofs.Leaving.{IsReady}
use Rattle.ov_transcript.specs.Transcripts.{Begins, Transcribed, frames, says_refused, service_of}
use Rattle.ov_transcript.proofs.Cutting.{AreTwoAsks, IsRefusedAsk, one_or_two}
use Rattle.ov_transcript.proofs.Refusing.{refused_kind, still_served}
use Rattle.ov_machine.proofs.Errands.{IsHonest, IsTold, honest}
use Rattle.ov_machine.proofs.PutOn.{IsPutOn, ask_length}
use Rattle.ov_machine.proofs.Quiet.{says}
use Rattle.ov_machine.proofs.UpdatePut.{from_start}
use Rattle.ov_machine.proofs.UpdateReplies.{accepted_reply, same_update, second, step_is}

module _ (k : Masters) (command : Command) (e : Errand) (d : Does k command e) (p : PlainHistory)
    (legal : IsLegal (history_of p)) (is_honest : IsHonest e)
    (refuses : (why : Refusal) → e.sealed (answers.Refused why) ≡ Err (faults.Refused why)) where
  abbrev here : Service
  here = service_of k p

  abbrev asked_second : Request
  asked_second = second k command e d p legal is_honest

  -- the command is refused, and leaves the history; or it is made, and is in the history that is
  -- served then
  abbrev Comes : Service → Type 0
  Comes last_served =
      (after p command ≡ p)
      ⊎ ((after p command ≡ with_plain p (d.plain p)) × (last_served.history ≡ sealed k (after p command)))

  module _ (first_form : HasRequestForm e.first) (last_served : Service) where
    is_refused : (told : Answer) (why : Refusal) → Answers (served here) e.first told
        → e.sealed told ≡ Err (faults.Refused why) → Comes last_served
    is_refused told why answered is =
        let refused = d.makes.refused (check_value_of k.base) p told why legal answered is in
        inl (ap (λ (r : Reply × PlainHistory). r.1) (d.as_update p ∙ ap (update_step p (d.plain p)) refused.1))

    by_refused : (others : List Ask) → IsRefusedAsk here e.first others → Comes last_served
    by_refused others r =
        let (told, said, makes) = says (served here) e.first r.one.reply r.made first_form
        (subst (λ (f : List ℕ). Replies (served here) f r.one.reply r.made) r.asked r.replies) in
        let (why, is) = refused_kind told (ap says_refused (sym said.spelled) ∙ r.refused) in
        is_refused told why said.answers (ap e.sealed is ∙ refuses why)

    module _ (asks : List Ask) (o : Option (List ℕ)) (result : Result ℕ OwnerFault) (w : Service)
        (put : List ℕ) (talks : Talks k.surface e asks o result) (alone : AnsweredAlone here asks w)
        (on : IsPutOn w o put last_served) (others : List Ask)
        (same : frames asks ++ put ≡ frames others) where
      by_two : AreTwoAsks here e.first asked_second others → Comes last_served
      by_two t =
          let first_asked : Replies (served here) (request_bytes e.first) t.one.reply t.made =
          subst (λ (f : List ℕ). Replies (served here) f t.one.reply t.made) t.asked t.replies in
          let (told, said, makes) = says (served here) e.first t.one.reply t.made first_form first_asked in
          by_told told said.answers said.form said.spelled (is_honest.tells (served here) told said.answers) where
            by_told : (told : Answer) → Answers (served here) e.first told → HasAnswerForm told
                → t.one.reply ≡ answer_bytes told → IsTold (served here).catalogue (e.sealed told)
                → Comes last_served
            by_told told answered told_form spelled (inl (why, is)) = is_refused told why answered is
            by_told told answered told_form spelled (inr (epoch, u, is, makeable)) =
                let (at_epoch, is_sealed, free) = d.makes.told (check_value_of k.base) p told epoch u legal answered is in
                let ready : IsReady k command e d (check_value_of k.base) p legal epoch u = record { at_epoch = at_epoch; is_sealed = is_sealed; free = free } in
                let ours : t.other.request ≡ request_bytes (update_request k.surface epoch u) =
                t.asked_then ∙ ap request_bytes (same_update k command e d p legal is_honest epoch u ready makeable) in
                let still : later here t.made ≡ here =
                still_served here e.first t.one.reply t.made first_form d.makes.no_update
                (subst (λ (f : List ℕ). Replies (served here) f t.one.reply t.made) t.asked t.replies) in
                let second_asked : Replies (served here) (request_bytes (update_request k.surface epoch u)) t.other.reply t.more =
                subst (λ (v : Service). Replies (served v) (request_bytes (update_request k.surface epoch u)) t.other.reply t.more) still
                (subst (λ (f : List ℕ). Replies (served (later here t.made)) f t.other.reply t.more) ours t.replies_then) in
                let one_request : length t.one.request ≡ length (request_bytes e.first) = ap length t.asked in
                let one_reply : length t.one.reply ≡ length (answer_bytes told) = ap length spelled in
                let other_request : length t.other.request ≡ length (request_bytes (update_request k.surface epoch u)) = ap length ours in
                let all : length (frames asks ++ put) ≡ length (frames (t.one ∷ t.other ∷ [])) =
                ap length (same ∙ ap frames t.is) in
                let first = ask_length t.one (t.other ∷ []) in
                let then = ask_length t.other [] in
                inr (
                  ap (λ (r : Reply × PlainHistory). r.1) (step_is k command e d p legal is_honest epoch u ready makeable),
                  from_start k command e d p legal is_honest epoch u ready makeable last_served (length t.other.reply)
                      (λ form. (accepted_reply k command e d p legal is_honest epoch u ready makeable form t.other.reply t.more second_asked).1)
                      first_form told answered told_form is asks talks.0 o result w put talks.1 talks.2 alone on
                      (omega (arith, one_request, one_reply, other_request, all, first, then)),
                )

      by_asks : Begins here (e.first ∷ asked_second ∷ []) others [] → Comes last_served
      by_asks begins = by_case (one_or_two here e.first asked_second others begins) where
        by_case : IsRefusedAsk here e.first others ⊎ AreTwoAsks here e.first asked_second others → Comes last_served
        by_case (inl r) = by_refused others r
        by_case (inr t) = by_two t

  -- something was asked, or nothing was put
  form_of : (asks : List Ask) (last : Stage) (o : Option (List ℕ)) (result : Result ℕ OwnerFault)
      (w last_served : Service) (put : List ℕ)
      → Goes k.surface e start asks last → Closes k.surface e last o result → IsPutOn w o put last_served
      → (frames asks ++ put ≡ []) ⊎ HasRequestForm e.first
  form_of [] last None result w last_served put goes closes (none, same) = inl none
  form_of [] last (Some frame) result w last_served put goes (at_last, why) on =
      inr (subst (λ (s : Stage). IsDue k.surface e s frame) (sym goes) at_last).form
  form_of (a ∷ asks) last o result w last_served put (next, moves, goes) closes on = inr moves.asked.form

  comes_of : (asks : List Ask) (o : Option (List ℕ)) (result : Result ℕ OwnerFault)
      (w last_served : Service) (put : List ℕ)
      → Talks k.surface e asks o result → AnsweredAlone here asks w → IsPutOn w o put last_served
      → (others : List Ask) → Begins here (e.first ∷ asked_second ∷ []) others [] → frames asks ++ put ≡ frames others
      → Comes last_served
  comes_of asks o result w last_served put talks alone on others begins same =
      by_form others begins same (form_of asks talks.0 o result w last_served put talks.1 talks.2 on) where
        by_form : (others : List Ask) → Begins here (e.first ∷ asked_second ∷ []) others [] → frames asks ++ put ≡ frames others
            → (frames asks ++ put ≡ []) ⊎ HasRequestForm e.first → Comes last_served
        by_form [] begins same (inl none) = absurd (cc begins)
        by_form (b ∷ others) begins same (inl none) =
            let long = ask_length b others in
            let empty : length (frames (b ∷ others)) ≡ 0 = ap length (sym same ∙ none) in
            absurd (omega (arith, long, empty))
        by_form others begins same (inr form) =
            by_asks form last_served asks o result w put talks alone on others same begins

-- ---- by the commands

-- the command is refused, and leaves the history; or an update is made, and is in the history that
-- is served then
abbrev pub ComesTo : Masters → PlainHistory → Command → Service → Type 0
ComesTo k p command last_served =
    (after p command ≡ p)
    ⊎ ((u : PlainUpdate) × (after p command ≡ with_plain p u) × (last_served.history ≡ sealed k (after p command)))

comes_so : (k : Masters) (command : Command) (e : Errand) (d : Does k command e) (p : PlainHistory) (last_served : Service)
    → (after p command ≡ p)
    ⊎ ((after p command ≡ with_plain p (d.plain p)) × (last_served.history ≡ sealed k (after p command)))
    → ComesTo k p command last_served
comes_so k command e d p last_served (inl same) = inl same
comes_so k command e d p last_served (inr (is, then)) = inr (d.plain p, is, then)

module _ (k : Masters) (p : PlainHistory) (legal : IsLegal (history_of p)) (asks : List Ask) (o : Option (List ℕ))
    (result : Result ℕ OwnerFault) (w last_served : Service) (put : List ℕ) where
  pub whole_is_made : (command : Command) (e : Errand) → IsErrandFor k.base command e
      → Talks k.surface e asks o result → AnsweredAlone (service_of k p) asks w → IsPutOn w o put last_served
      → Transcribed k p command (frames asks ++ put) → ComesTo k p command last_served
  whole_is_made (commands.Enrol user) e is talks alone on (others, begins, same) =
      comes_so k (commands.Enrol user) (enrolling user) (enrol_does k user) p last_served
      (comes_of k (commands.Enrol user) (enrolling user) (enrol_does k user) p legal
      (honest k.base (commands.Enrol user) (enrolling user) refl) (λ why. refl) asks o result w last_served put
      (subst (λ (x : Errand). Talks k.surface x asks o result) is talks) alone on others begins same)
  whole_is_made (commands.Create file names bytes) e is talks alone on (others, begins, same) =
      comes_so k (commands.Create file names bytes) (creating k.base file names bytes) (create_does k file names bytes) p last_served
      (comes_of k (commands.Create file names bytes) (creating k.base file names bytes) (create_does k file names bytes) p legal
      (honest k.base (commands.Create file names bytes) (creating k.base file names bytes) refl) (λ why. refl) asks o result w last_served put
      (subst (λ (x : Errand). Talks k.surface x asks o result) is talks) alone on others begins same)
  whole_is_made (commands.Grant user file) e is talks alone on (others, begins, same) =
      comes_so k (commands.Grant user file) (granting k.base user file) (grant_does k user file) p last_served
      (comes_of k (commands.Grant user file) (granting k.base user file) (grant_does k user file) p legal
      (honest k.base (commands.Grant user file) (granting k.base user file) refl) (λ why. refl) asks o result w last_served put
      (subst (λ (x : Errand). Talks k.surface x asks o result) is talks) alone on others begins same)
  whole_is_made (commands.Revoke user file) e is talks alone on (others, begins, same) =
      comes_so k (commands.Revoke user file) (revoking user file) (revoke_does k user file) p last_served
      (comes_of k (commands.Revoke user file) (revoking user file) (revoke_does k user file) p legal
      (honest k.base (commands.Revoke user file) (revoking user file) refl) (λ why. refl) asks o result w last_served put
      (subst (λ (x : Errand). Talks k.surface x asks o result) is talks) alone on others begins same)
  whole_is_made (commands.Remove file) e is talks alone on (others, begins, same) =
      comes_so k (commands.Remove file) (removing file) (remove_does k file) p last_served
      (comes_of k (commands.Remove file) (removing file) (remove_does k file) p legal
      (honest k.base (commands.Remove file) (removing file) refl) (λ why. refl) asks o result w last_served put
      (subst (λ (x : Errand). Talks k.surface x asks o result) is talks) alone on others begins same)
  whole_is_made (commands.Replace file bytes) e is talks alone on (others, begins, same) =
      comes_so k (commands.Replace file bytes) (replacing k.base file bytes) (replace_does k file bytes) p last_served
      (comes_of k (commands.Replace file bytes) (replacing k.base file bytes) (replace_does k file bytes) p legal
      (honest k.base (commands.Replace file bytes) (replacing k.base file bytes) refl) (λ why. refl) asks o result w last_served put
      (subst (λ (x : Errand). Talks k.surface x asks o result) is talks) alone on others begins same)
  whole_is_made command e is talks alone on whole = absurd is
