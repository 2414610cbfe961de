-- An Update, asked of a server that nobody else updates.
use Rattle.std.proofs.Common.{◌≡◌, ◌∙◌, ◌<◌, ◌+◌, ◌^◌, ℕ, List, [], ◌∷◌, Result, Ok, Err, refl, sym}
use Rattle.std.proofs.Common.{ap, subst, inl, inr, ⊎_elim, None}
use Rattle.std.specs.Prelude.{◌⊎◌}
use Rattle.ov_record.specs.Briefs.{brief}
use Rattle.ov_record.specs.Forms.{second_form}
use Rattle.ov_record.specs.Spelling.{HasForm, spelling}
use Rattle.ov_record.specs.Updates.{SealedUpdate}
use Rattle.ov_history.specs.Catalogue.{Catalogue, numbered_at, outline}
use Rattle.ov_history.specs.Sealed.{HasParts, catalogue_of, refusal_shown}
use Rattle.ov_wire.specs.AnswerBytes.{answer_bytes}
use Rattle.ov_wire.specs.AnswerForm.{HasAnswerForm}
use Rattle.ov_wire.specs.AnswerReading.{answer_of}
use Rattle.ov_wire.specs.RequestReading.{request_of}
use Rattle.ov_wire.specs.Requests.{HasRequestForm, request_bytes}
use Rattle.ov_wire.specs.declared.answer.Answer.{Answer}
use Rattle.ov_wire.specs.declared.answer.Answer.TheVariants as answers
use Rattle.ov_wire.specs.declared.request.Request.{Request}
use Rattle.ov_protocol.specs.Answers.{Answers, made_by}
use Rattle.ov_protocol.specs.Replies.{AnswersRead, MayMake, made_of, updates_asked}
use Rattle.ov_protocol.specs.Serving.{Service, later, served}
use Rattle.ov_protocol.specs.Updating.{AnswersSealed, AnswersSpelled, AnswersUpdate, owner_tag}
use Rattle.ov_protocol.specs.Updating.{spelled_by, updates_in}
use Rattle.ov_protocol.proofs.Reading.{request_back}
use Rattle.ov_peer.specs.Alone.{IsAlone}
use Rattle.ov_peer.specs.Disks.{IsDiskFault}
use Rattle.ov_peer.specs.Exchanges.{Exchanges}
use Rattle.ov_peer.specs.Leaving.{reply_makes}
use Rattle.ov_peer.specs.Tells.{IsReplyAt, PeerTells}
use Rattle.ov_peer.specs.declared.fault.ExchangeFault.{ExchangeFault}
use Rattle.ov_peer.specs.declared.fault.ExchangeFault.TheVariants as exchange
use Rattle.ov_client.specs.Completeness.{FailsDisk}
use Rattle.ov_client.proofs.Alone.{same_left}
use Rattle.ov_owner.specs.Alone.{IsLeftAlone}
use Rattle.ov_owner.proofs.Fitting.{reads_back}
use Rattle.ov_owner.proofs.Stepping.{read_back}
use Rattle.ov_owning.specs.Owning.{update_request}

-- the update isn't refused at this catalogue, and has the parts that the layers want
abbrev pub FitsAt : Catalogue → SealedUpdate → Type 0
FitsAt c u =
    (refusal_shown c (numbered_at c (brief u)) ≡ None)
    × HasParts (outline c) (numbered_at c (brief u))

sealed_accepted : (c : Catalogue) (u : SealedUpdate) (a : Answer) → FitsAt c u
    → AnswersSealed c u a → a ≡ answers.Accepted (c.epoch + 1)
sealed_accepted c u (answers.Accepted n) fits (none, parts, next) =
    ap (λ (m : ℕ). answers.Accepted m) next
sealed_accepted c u (answers.Refused why) fits some = absurd (cc (fits.0, some))
sealed_accepted c u (answers.BadRequest place) fits (none, lacks, at_place) =
    absurd (lacks fits.1)
sealed_accepted c u a fits is = absurd is

-- with the owner's tag and at the epoch of the catalogue it is accepted
update_accepted : (surface : List ℕ) (c : Catalogue) (u : SealedUpdate) (a : Answer)
    → HasForm second_form u → FitsAt c u
    → AnswersUpdate surface c c.epoch (spelling second_form u)
    (owner_tag surface c.epoch (spelling second_form u)) a
    → a ≡ answers.Accepted (c.epoch + 1)
update_accepted surface c u answers.BadTag form fits wrong = absurd (wrong refl)
update_accepted surface c u (answers.Stale now) form fits (tagged, other, is) =
    absurd (other refl)
update_accepted surface c u a form fits (tagged, now, is) =
    sealed_accepted c u a fits
    (subst (λ (r : Result SealedUpdate ℕ). AnswersSpelled c r a) (read_back u form) is)

module _ (v : Service) (u : SealedUpdate) (form : HasForm second_form u)
    (fits : FitsAt (catalogue_of v.surface v.history) u) where
  abbrev c : Catalogue
  c = catalogue_of v.surface v.history

  -- the Update that is made there
  abbrev pub update_there : Request
  update_there = update_request v.surface c.epoch u

  updates_read : updates_in (spelling second_form u) ≡ u ∷ []
  updates_read = ap spelled_by (read_back u form)

  -- the answer is that it was made
  abbrev pub IsAccepted : Result Answer ExchangeFault → Type 0
  IsAccepted answer = (n : ℕ) × (answer ≡ Ok (answers.Accepted n))

  module _ (sendable : HasRequestForm update_there) where
    update_back : request_of (request_bytes update_there) ≡ Ok update_there
    update_back = request_back update_there sendable

    -- it makes nothing, or itself
    left_by : (made : List SealedUpdate) → MayMake (request_bytes update_there) made
        → (later v made ≡ v) ⊎ (later v made ≡ later v (u ∷ []))
    left_by made (inl none) = inl (same_left v made none)
    left_by made (inr some) =
        inr (ap (later v) (some ∙ ap updates_asked update_back ∙ updates_read))

    -- what is replied is that it was made, or that the server's disk failed
    update_said : (reply : List ℕ) (made : List SealedUpdate)
        → IsReplyAt v (request_bytes update_there) reply made
        → ((answer_of update_there reply ≡ Ok (answers.Accepted (c.epoch + 1)))
        × (later v made ≡ later v (u ∷ [])))
        ⊎ ((answer_of update_there reply ≡ Ok answers.DeviceFault)
        × IsDiskFault (served v) (request_bytes update_there) reply made)
    update_said reply made (inr failed) =
        inr (reads_back update_there answers.DeviceFault reply tt tt failed.spelled, failed)
    update_said reply made (inl replies) =
        let a = replies.answer in
        let at_v : Answers (served v) update_there a =
        subst (λ (r : Result Request ℕ). AnswersRead (served v) r a) update_back replies.answers in
        let accepted : a ≡ answers.Accepted (c.epoch + 1) =
        update_accepted v.surface c u a form fits at_v in
        let low : c.epoch + 1 < 2 ^ 32 = subst (λ (x : Answer). HasAnswerForm x) accepted replies.form in
        let one : made ≡ u ∷ [] =
        replies.makes ∙ ap (λ (r : Result Request ℕ). made_of r a) update_back
        ∙ ap (made_by update_there) accepted ∙ updates_read in
        inl (
          reads_back update_there (answers.Accepted (c.epoch + 1)) reply (refl, low) low
              (replies.spelled ∙ ap answer_bytes accepted),
          ap (later v) one,
        )

    module _ {P : Type 0} (peer : PeerTells P) (alone : IsAlone peer) where
      -- what is served after the Update: with it, or without it where it isn't accepted
      abbrev pub UpdateLeaves : Result Answer ExchangeFault → P → Type 0
      UpdateLeaves answer q =
          (now : Service) × peer.serves q now
          × ((now ≡ later v (u ∷ [])) ⊎ ((now ≡ v) × (IsAccepted answer → ⊥)))

      by_made : (answer : Result Answer ExchangeFault) (made : List SealedUpdate) (q : P)
          → (IsAccepted answer → ⊥) → MayMake (request_bytes update_there) made
          → peer.serves q (later v made) → UpdateLeaves answer q
      by_made answer made q other may goes_on = (
        later v made,
        goes_on,
        ⊎_elim (λ none. inr (none, other)) (λ one. inl one) (left_by made may),
      )

      update_asked : (p q : P) (answer : Result Answer ExchangeFault) (reply : List ℕ)
          → (IsAccepted answer → ⊥) → peer.asked p (request_bytes update_there) reply q
          → peer.serves p v → UpdateLeaves answer q
      update_asked p q answer reply other asked serving =
          let (made, at_v, goes_on) =
          alone p q (request_bytes update_there) reply v asked serving in
          by_made answer made q other
          (reply_makes v (request_bytes update_there) reply made at_v) goes_on

      update_failed : IsLeftAlone peer → (p q : P) (answer : Result Answer ExchangeFault)
          → (IsAccepted answer → ⊥) → peer.failed p (request_bytes update_there) q
          → peer.serves p v → UpdateLeaves answer q
      update_failed left p q answer other failed serving =
          let (made, may, goes_on) = left p q (request_bytes update_there) v failed serving in
          by_made answer made q other may goes_on

      pub update_left : IsLeftAlone peer → (p q : P) (answer : Result Answer ExchangeFault)
          → Exchanges peer p q update_there answer → peer.serves p v → UpdateLeaves answer q
      update_left left p q (Ok a) asks serving =
          let (made, at_v, goes_on) =
          alone p q (request_bytes update_there) asks.reply v asks.sent serving in
          elim (update_said asks.reply made at_v) [
            | inl (reads, one) ↦ (later v made, goes_on, inl one)
            | inr (reads, failed) ↦
                by_made (Ok a) made q
                (λ accepted.
                let same : Ok a ≡ Ok answers.DeviceFault = sym asks.reads ∙ reads in
                let is : Ok a ≡ Ok (answers.Accepted accepted.0) = accepted.1 in
                cc (same, is)) failed.makes goes_on
          ]
      update_left left p q (Err (exchange.BadReply place)) asks serving =
          update_asked p q (Err (exchange.BadReply place)) asks.reply (λ accepted. cc accepted.1)
          asks.sent serving
      update_left left p q (Err exchange.Link) failed serving =
          update_failed left p q (Err exchange.Link) (λ accepted. cc accepted.1) failed serving
      update_left left p q (Err exchange.Memory) (inl same) serving = (
        v,
        subst (λ (x : P). peer.serves x v) (sym same) serving,
        inr (refl, λ accepted. cc accepted.1),
      )
      update_left left p q (Err exchange.Memory) (inr (inl failed)) serving =
          update_failed left p q (Err exchange.Memory) (λ accepted. cc accepted.1) failed serving
      update_left left p q (Err exchange.Memory) (inr (inr (reply, asked))) serving =
          update_asked p q (Err exchange.Memory) reply (λ accepted. cc accepted.1) asked serving

      -- how it is answered
      abbrev pub UpdateEnds : P → P → Result Answer ExchangeFault → Type 0
      UpdateEnds p q answer =
          (answer ≡ Ok (answers.Accepted (c.epoch + 1)))
          ⊎ (((answer ≡ Ok answers.DeviceFault) × FailsDisk peer p q)
          ⊎ ((answer ≡ Err exchange.Link) ⊎ (answer ≡ Err exchange.Memory)))

      pub update_ends : (p q : P) (answer : Result Answer ExchangeFault)
          → Exchanges peer p q update_there answer → peer.serves p v → UpdateEnds p q answer
      update_ends p q (Ok a) asks serving =
          let (made, at_v, goes_on) =
          alone p q (request_bytes update_there) asks.reply v asks.sent serving in
          elim (update_said asks.reply made at_v) [
            | inl (reads, one) ↦
                let same : Ok a ≡ Ok (answers.Accepted (c.epoch + 1)) = sym asks.reads ∙ reads in
                let is : a ≡ answers.Accepted (c.epoch + 1) = cc same in
                inl (ap (λ (x : Answer). Ok x) is)
            | inr (reads, failed) ↦
                let same : Ok a ≡ Ok answers.DeviceFault = sym asks.reads ∙ reads in
                let is : a ≡ answers.DeviceFault = cc same in
                inr (inl (
                  ap (λ (x : Answer). Ok x) is,
                  record {
                    earlier = [];
                    before = p;
                    leads = refl;
                    request = request_bytes update_there;
                    reply = asks.reply;
                    after = q;
                    asks = asks.sent;
                    more = [];
                    goes_on = refl;
                    service = v;
                    serving = serving;
                    made = made;
                    fault = failed;
                  },
                ))
          ]
      update_ends p q (Err (exchange.BadReply place)) asks serving =
          let (made, at_v, goes_on) =
          alone p q (request_bytes update_there) asks.reply v asks.sent serving in
          elim (update_said asks.reply made at_v) [
            | inl (reads, one) ↦
                let same : Err place ≡ Ok (answers.Accepted (c.epoch + 1)) =
                sym asks.reads ∙ reads in
                absurd (cc same)
            | inr (reads, failed) ↦
                let same : Err place ≡ Ok answers.DeviceFault = sym asks.reads ∙ reads in
                absurd (cc same)
          ]
      update_ends p q (Err exchange.Link) failed serving = inr (inr (inl refl))
      update_ends p q (Err exchange.Memory) forgets serving = inr (inr (inr refl))
