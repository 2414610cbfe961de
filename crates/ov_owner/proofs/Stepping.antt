-- An update that is accepted or refused is the machine's step.
use Rattle.std.proofs.Common.{◌≡◌, ℕ, ◌+◌, ◌∙◌, List, Some, None, Result, Ok, refl, sym, ap, subst}
use Rattle.std.specs.Prelude.{length}
use Rattle.ov_base.specs.declared.refusal.Refusal.{Refusal}
use Rattle.ov_fields.proofs.WholeLaws.{all_again}
use Rattle.ov_fields.specs.Reading.{placed}
use Rattle.ov_record.specs.Briefs.{brief}
use Rattle.ov_record.specs.Reading.{update_of}
use Rattle.ov_record.specs.Spelling.{HasForm, spelling}
use Rattle.ov_record.specs.Updates.{SealedUpdate}
use Rattle.ov_record.proofs.UpdateLaws.{update_reads, second_has_room}
use Rattle.ov_record.specs.Forms.{second_form}
use Rattle.ov_script.specs.declared.command.Command.{Command}
use Rattle.ov_script.specs.declared.reply.Reply.{Reply}
use Rattle.ov_script.specs.declared.reply.Reply.TheVariants as replies
use Rattle.ov_history.specs.Briefs.{Brief}
use Rattle.ov_history.specs.Catalogue.{Catalogue, numbered_at}
use Rattle.ov_history.specs.History.{epoch_of}
use Rattle.ov_history.specs.Layers.{layers_of}
use Rattle.ov_history.specs.Masters.{Masters}
use Rattle.ov_history.specs.Plain.{PlainHistory, history_of, measured, with_plain}
use Rattle.ov_history.specs.Refusals.{IsLegal, refusal_of}
use Rattle.ov_history.specs.Sealed.{SealedHistory, catalogue_of, file_names_of, refusal_shown, with_sealed}
use Rattle.ov_history.specs.Sealing.{IsSealedAs, IsSealedSince, sealed, sealed_update}
use Rattle.ov_history.specs.Sent.{SealedUpdate as NumberedUpdate, numbered}
use Rattle.ov_history.proofs.Keeping.{kept_refusals, kept_shows}
use Rattle.ov_model.specs.Step.{step, update_step}
use Rattle.ov_history.proofs.Agreeing.{right_shows}
use Rattle.ov_history.proofs.Since.{sealed_since, sealed_since_goes_on}
use Rattle.ov_wire.specs.declared.answer.Answer.TheVariants as answers
use Rattle.ov_protocol.specs.Serving.{Service, followed, served}
use Rattle.ov_protocol.specs.Answers.{Answers, made_by}
use Rattle.ov_protocol.specs.Updating.{AnswersSpelled, spelled_by}
use Rattle.ov_owner.specs.Errands.{Errand}
use Rattle.ov_owner.specs.Steps.{IsStep}
use Rattle.ov_owner.specs.Talks.{update_request}
use Rattle.ov_peer.proofs.Following.{followed-nil}
use Rattle.ov_owner.proofs.Agreeing.{right_names}
use Rattle.ov_owner.proofs.Histories.{same_epoch}
use Rattle.ov_owner.proofs.Doing.{Does}
use Rattle.ov_owner.proofs.Telling.{brief_as, names_after, under}

-- an update's spelling is read as it
pub read_back : (u : SealedUpdate) → HasForm second_form u → update_of second_form (spelling second_form u) ≡ Ok u
read_back u form = ap (placed (length (spelling second_form u))) (all_again (update_reads second_form second_has_room) u form)

module _ (k : Masters) (command : Command) (e : Errand) (d : Does k command e) (base_check : List ℕ) where
  abbrev pub serving : SealedHistory → Service
  serving g = under k.surface base_check g

  -- ---- steps

  accepted_step : (p : PlainHistory) (n : ℕ) (answered last : SealedHistory)
      → IsLegal (history_of p) → IsSealedAs k p answered
      → refusal_of (history_of p) (measured (d.plain p)) ≡ None
      → n ≡ epoch_of (history_of p) + 1
      → IsSealedSince k p (with_plain p (d.plain p)) last
      → IsStep k command (replies.Accepted n) answered last
  accepted_step p n answered last legal same none epoch is =
      let so : step p command ≡ (replies.Accepted (epoch_of (history_of p) + 1), with_plain p (d.plain p)) =
      d.as_update p ∙ ap (update_step p (d.plain p)) none in record {
        before = p;
        legal = legal;
        same = same;
        replied = ap (λ (x : Reply × PlainHistory). x.0) so ∙ ap replies.Accepted (sym epoch);
        next = subst (λ (x : Reply × PlainHistory). IsSealedSince k p x.1 last) (sym so) is;
      }

  pub refused_step : (p : PlainHistory) (why : Refusal) (answered last : SealedHistory)
      → IsLegal (history_of p) → IsSealedAs k p answered
      → refusal_of (history_of p) (measured (d.plain p)) ≡ Some why
      → last ≡ answered
      → IsStep k command (replies.Refused why) answered last
  refused_step p why answered last legal same some is =
      let so : step p command ≡ (replies.Refused why, p) =
      d.as_update p ∙ ap (update_step p (d.plain p)) some in record {
        before = p;
        legal = legal;
        same = same;
        replied = ap (λ (x : Reply × PlainHistory). x.0) so;
        next = subst (λ (x : Reply × PlainHistory). IsSealedSince k p x.1 last) (sym so)
            (sealed_since k p last (subst (IsSealedAs k p) (sym is) same));
      }

  -- ---- what is known of what is served at a stage

  -- the update was sealed of an answer at a right history, from which this one goes on
  pub record IsSealedAt (g : SealedHistory) (epoch : ℕ) (u : SealedUpdate) : Type 0 where
    pub p : PlainHistory
    pub legal : IsLegal (history_of p)
    pub asked : SealedHistory
    pub right : IsSealedAs k p asked
    pub between : List SealedUpdate
    pub same : g ≡ followed asked between
    pub at_epoch : epoch ≡ (catalogue_of k.surface (sealed k p)).epoch
    pub is_sealed : numbered (names_after p) u
        ≡ sealed_update k (layers_of (history_of p)) (d.plain p)

  -- where the server is at the epoch of the update, it is at the history where it was sealed
  still_there : (g : SealedHistory) (others : List SealedUpdate) (epoch : ℕ) (u : SealedUpdate)
      (t : IsSealedAt g epoch u)
      → epoch ≡ (catalogue_of k.surface (followed g others)).epoch
      → followed g others ≡ t.asked
  still_there g others epoch u t now =
      let epochs : (catalogue_of k.surface t.asked).epoch ≡ epoch =
      ap (λ (c : Catalogue). c.epoch) (right_shows k t.p t.asked t.legal t.right)
      ∙ sym t.at_epoch in
      ap (λ (x : SealedHistory). followed x others) t.same
      ∙ same_epoch k.surface t.asked t.between others
      (epochs ∙ now ∙ ap (λ (x : SealedHistory). (catalogue_of k.surface (followed x others)).epoch) t.same)

  -- there what is served shows what the owner's own form shows
  shows_there : (g : SealedHistory) (others : List SealedUpdate) (epoch : ℕ) (u : SealedUpdate)
      (t : IsSealedAt g epoch u)
      → epoch ≡ (catalogue_of k.surface (followed g others)).epoch
      → catalogue_of k.surface (followed g others) ≡ catalogue_of k.surface (sealed k t.p)
  shows_there g others epoch u t now =
      ap (catalogue_of k.surface) (still_there g others epoch u t now)
      ∙ right_shows k t.p t.asked t.legal t.right

  -- and it is right by the history at which the update was sealed
  right_there : (g : SealedHistory) (others : List SealedUpdate) (epoch : ℕ) (u : SealedUpdate)
      (t : IsSealedAt g epoch u)
      → epoch ≡ (catalogue_of k.surface (followed g others)).epoch
      → IsSealedAs k t.p (followed g others)
  right_there g others epoch u t now =
      subst (IsSealedAs k t.p) (sym (still_there g others epoch u t now)) t.right

  -- there it is the update by number that was sealed
  numbered_there : (g : SealedHistory) (others : List SealedUpdate) (epoch : ℕ) (u : SealedUpdate)
      (t : IsSealedAt g epoch u)
      → epoch ≡ (catalogue_of k.surface (followed g others)).epoch
      → numbered (file_names_of (followed g others)) u
      ≡ sealed_update k (layers_of (history_of t.p)) (d.plain t.p)
  numbered_there g others epoch u t now =
      ap (λ (names : List (List ℕ)). numbered names u)
      (right_names k t.p (followed g others) (right_there g others epoch u t now))
      ∙ t.is_sealed

  -- and is refused as the plain update is
  refused_there : (g : SealedHistory) (epoch : ℕ) (u : SealedUpdate) (t : IsSealedAt g epoch u)
      → let c = catalogue_of k.surface (sealed k t.p) in
      refusal_of (history_of t.p) (measured (d.plain t.p))
      ≡ refusal_shown c (numbered_at c (brief u))
  refused_there g epoch u t =
      let c = catalogue_of k.surface (sealed k t.p) in
      let refusals = kept_refusals k t.p c (d.plain t.p) (t.legal, refl) in
      sym refusals.0
      ∙ ap (λ (b : Brief). refusal_shown c b)
      (sym (brief_as k t.p t.legal (d.plain t.p) u t.is_sealed))

  pub update_accepted : (g : SealedHistory) (others made : List SealedUpdate) (epoch n : ℕ)
      (u : SealedUpdate)
      → IsSealedAt g epoch u → HasForm second_form u
      → Answers (served (serving (followed g others))) (update_request k.surface epoch u) (answers.Accepted n)
      → made ≡ made_by (update_request k.surface epoch u) (answers.Accepted n)
      → IsStep k command (replies.Accepted n) (followed g others) (followed (followed g others) made)
  update_accepted g others made epoch n u t form (tagged, now, taken) makes_it =
      let here : SealedHistory = followed g others in
      let sent : NumberedUpdate = sealed_update k (layers_of (history_of t.p)) (d.plain t.p) in
      let right = right_there g others epoch u t now in
      let read = read_back u form in
      let c = catalogue_of k.surface (sealed k t.p) in
      let (none, parts, next) : AnswersSpelled c (Ok u) (answers.Accepted n) =
      subst (λ (x : Catalogue). AnswersSpelled x (Ok u) (answers.Accepted n))
      (shows_there g others epoch u t now)
      (subst (λ (r : Result SealedUpdate ℕ). AnswersSpelled (catalogue_of k.surface here) r (answers.Accepted n)) read taken) in
      let shows = kept_shows k t.p c (t.legal, refl) in
      let left : with_sealed here sent ≡ followed here made =
      ap (with_sealed here) (sym (numbered_there g others epoch u t now))
      ∙ sym (ap (λ (us : List SealedUpdate). followed here us) (makes_it ∙ ap spelled_by read)) in
      accepted_step t.p n here (followed here made) t.legal right
      (refused_there g epoch u t ∙ none)
      (next ∙ ap (λ x. x + 1) shows.epoch)
      (subst (IsSealedSince k t.p (with_plain t.p (d.plain t.p))) left
      (sealed_since_goes_on k t.p t.p (d.plain t.p) here (sealed_since k t.p here right)))

  pub update_refused : (g : SealedHistory) (others made : List SealedUpdate) (epoch : ℕ)
      (why : Refusal) (u : SealedUpdate)
      → IsSealedAt g epoch u → HasForm second_form u
      → Answers (served (serving (followed g others))) (update_request k.surface epoch u) (answers.Refused why)
      → made ≡ made_by (update_request k.surface epoch u) (answers.Refused why)
      → IsStep k command (replies.Refused why) (followed g others) (followed (followed g others) made)
  update_refused g others made epoch why u t form (tagged, now, taken) makes_it =
      let right = right_there g others epoch u t now in
      let read = read_back u form in
      let c = catalogue_of k.surface (sealed k t.p) in
      let some : AnswersSpelled c (Ok u) (answers.Refused why) =
      subst (λ (x : Catalogue). AnswersSpelled x (Ok u) (answers.Refused why))
      (shows_there g others epoch u t now)
      (subst (λ (r : Result SealedUpdate ℕ). AnswersSpelled (catalogue_of k.surface (followed g others)) r (answers.Refused why)) read taken) in
      refused_step t.p why (followed g others) (followed (followed g others) made) t.legal right
      (refused_there g epoch u t ∙ some)
      (ap (λ (us : List SealedUpdate). followed (followed g others) us) makes_it ∙ followed-nil (followed g others))
