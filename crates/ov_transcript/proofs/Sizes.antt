-- How long the transcripts of updates are.
use Rattle.std.proofs.Common.{◌≡◌, ◌∙◌, ℕ, ◌+◌, ◌*◌, ◌≤◌, false, List, [], ◌∷◌, length}
use Rattle.std.proofs.Common.{length-append, Result, refl, sym, ap, subst, inl, inr, arith}
use Rattle.std.specs.Prelude.{◌⊎◌}
use Rattle.ov_base.specs.Sets.{size}
use Rattle.ov_base.specs.declared.limits.TheConstants.{SET_BYTES}
use Rattle.ov_record.specs.Reading.{update_of}
use Rattle.ov_record.specs.Spelling.{HasForm, spelling}
use Rattle.ov_record.specs.Updates.{SealedUpdate}
use Rattle.ov_record.specs.Forms.{second_form}
use Rattle.ov_script.specs.declared.command.Command.TheVariants as commands
use Rattle.ov_history.specs.Asking.{file_named}
use Rattle.ov_history.specs.Catalogue.{Catalogue, outline}
use Rattle.ov_history.specs.History.{Matrix, epoch_of, matrix_of}
use Rattle.ov_history.specs.Layers.{Layers, layers_of, list_in}
use Rattle.ov_history.specs.Lists.{file_number, set_named, user_number}
use Rattle.ov_history.specs.Masters.{Masters}
use Rattle.ov_history.specs.Plain.{PlainCreate, PlainEnrol, PlainGrant, PlainHistory, PlainRevoke}
use Rattle.ov_history.specs.Plain.{PlainRemove, PlainReplace, history_of}
use Rattle.ov_history.specs.Refusals.{IsLegal}
use Rattle.ov_history.specs.Sealed.{catalogue_of}
use Rattle.ov_history.specs.Sealing.{sealed, sealed_update}
use Rattle.ov_history.specs.Sent.{spelled}
use Rattle.ov_wire.specs.declared.request.Question.{Question}
use Rattle.ov_wire.specs.declared.request.Question.TheVariants as questions
use Rattle.ov_wire.specs.declared.request.Request.{Request}
use Rattle.ov_wire.specs.declared.request.Request.TheVariants as requests
use Rattle.ov_wire.specs.declared.answer.Known.{Known}
use Rattle.ov_wire.specs.declared.answer.Answer.{Answer}
use Rattle.ov_wire.specs.declared.answer.Answer.TheVariants as answers
use Rattle.ov_wire.specs.AnswerBytes.{answer_bytes}
use Rattle.ov_wire.specs.AnswerForm.{HasAnswerForm, HasKnownForm}
use Rattle.ov_wire.specs.Frames.{framed}
use Rattle.ov_wire.specs.RequestReading.{request_of}
use Rattle.ov_wire.specs.Requests.{HasRequestForm, request_bytes}
use Rattle.ov_protocol.specs.Serving.{Service, later, served}
use Rattle.ov_protocol.specs.Answers.{Answers}
use Rattle.ov_protocol.specs.Asking.{AnswersAsk, AnswersCover, AnswersReplan}
use Rattle.ov_protocol.specs.Replies.{AnswersRead, Replies}
use Rattle.ov_protocol.specs.Updating.{AnswersUpdate, owner_tag}
use Rattle.ov_protocol.proofs.Reading.{request_back}
use Rattle.ov_peer.specs.Asks.{Ask}
use Rattle.ov_owner.specs.Laws.{list_size}
use Rattle.ov_owner.specs.Talks.{update_request}
use Rattle.ov_owner.proofs.Sizes.{ask_answer_short, cover_answer_short, cover_short, creation_short}
use Rattle.ov_owner.proofs.Sizes.{list_few, question_short, replacement_short, replan_answer_short}
use Rattle.ov_owner.proofs.Sizes.{replan_short, short_update, spelled_answer_short}
use Rattle.ov_owner.proofs.Telling.{list_here, list_shown, names_after}
use Rattle.ov_transcript.specs.Laws.{TranscriptsAreShort}
use Rattle.ov_transcript.specs.Transcripts.{Begins, frames, frames_of, says_refused, service_of}
use Rattle.ov_transcript.proofs.Cutting.{AreTwoAsks, IsRefusedAsk, one_or_two}
use Rattle.ov_transcript.proofs.Forms.{Fits, create_fits, enrol_fits, fits_form, grant_fits}
use Rattle.ov_transcript.proofs.Forms.{remove_fits, replace_fits, revoke_fits, update_length}

-- the answer in a reply to a request that can be sent
pub answers_so : (v : Service) (request : Request) (frame reply : List ℕ) (made : List SealedUpdate)
    → HasRequestForm request → frame ≡ request_bytes request
    → (replies : Replies (served v) frame reply made)
    → Answers (served v) request replies.answer
answers_so v request frame reply made form asked replies =
    subst (λ (x : Result Request ℕ). AnswersRead (served v) x replies.answer)
    (request_back request form)
    (subst (λ (f : List ℕ). AnswersRead (served v) (request_of f) replies.answer) asked
    replies.answers)

-- how many bytes the frames of an ask add
ask_length : (a : Ask) (asks : List Ask)
    → length (frames (a ∷ asks)) ≡ 8 + length a.request + length a.reply + length (frames asks)
ask_length a asks =
    omega (
      arith,
      length-append (frames_of a) (frames asks),
      length-append (framed a.request)
          (framed a.reply),
    )

-- an answer to an update has five bytes at most
update_answer_short : (surface : List ℕ) (c : Catalogue) (epoch : ℕ) (spelled tag : List ℕ)
    (a : Answer)
    → AnswersUpdate surface c epoch spelled tag a → length (answer_bytes a) ≤ 5
update_answer_short surface c epoch spelled tag answers.BadTag is = omega arith
update_answer_short surface c epoch spelled tag (answers.Stale now) is = omega arith
update_answer_short surface c epoch spelled tag a (tagged, now, is) =
    spelled_answer_short c (update_of second_form spelled) a is

module _ (k : Masters) (p : PlainHistory) (legal : IsLegal (history_of p)) where
  abbrev here : Service
  here = service_of k p

  abbrev c : Catalogue
  c = catalogue_of k.surface (sealed k p)

  abbrev y : Layers
  y = layers_of (history_of p)

  abbrev m : Matrix
  m = matrix_of (history_of p)

  module _ (first : Request) (form : HasRequestForm first) (u : SealedUpdate)
      (fits : (x : Answer) → Answers (served here) first x → HasAnswerForm x
      → says_refused (answer_bytes x) ≡ false → Fits k p legal u)
      (most told sent : ℕ)
      (first_short : length (request_bytes first) ≤ most)
      (told_short : (x : Answer) → Answers (served here) first x → length (answer_bytes x) ≤ told)
      (sent_short : HasForm second_form u → length (spelling second_form u) ≤ sent) where
    abbrev second : Request
    second = update_request k.surface (epoch_of (history_of p)) u

    first_reply : (one : Ask) (made : List SealedUpdate) → one.request ≡ request_bytes first
        → Replies (served here) one.request one.reply made
        → (length one.request ≤ most) × (length one.reply ≤ told)
    first_reply one made asked replies =
        let request = ap length asked in
        let reply = ap length replies.spelled in
        let short = told_short replies.answer
        (answers_so here first one.request one.reply made form asked replies) in
        (omega (arith, request, first_short), omega (arith, reply, short))

    refused_short : (asks : List Ask) → IsRefusedAsk here first asks
        → length (frames asks) ≤ most + told + sent + 58
    refused_short asks r =
        let (one, two) = first_reply r.one r.made r.asked r.replies in
        let short : length (frames (r.one ∷ [])) ≤ most + told + sent + 58 =
        omega (arith, one, two, ask_length r.one []) in
        subst (λ (l : List Ask). length (frames l) ≤ most + told + sent + 58) (sym r.is) short

    two_short : (asks : List Ask) → AreTwoAsks here first second asks
        → length (frames asks) ≤ most + told + sent + 58
    two_short asks t =
        let (one, two) = first_reply t.one t.made t.asked t.replies in
        let f : Fits k p legal u =
        fits t.replies.answer (answers_so here first t.one.request t.one.reply t.made form t.asked
        t.replies)
        t.replies.form (ap says_refused (sym t.replies.spelled) ∙ t.free) in
        let three : length t.other.request ≡ 37 + length (spelling second_form u) =
        ap length t.asked_then ∙ update_length k.surface (epoch_of (history_of p)) u in
        let four = sent_short f.form in
        let answered : Answers (served (later here t.made)) second t.replies_then.answer =
        answers_so (later here t.made) second t.other.request t.other.reply t.more
        (fits_form k p legal u f)
        t.asked_then t.replies_then in
        let five : length t.other.reply ≤ 5 =
        subst (λ (l : List ℕ). length l ≤ 5) (sym t.replies_then.spelled)
        (update_answer_short k.surface (served (later here t.made)).catalogue
        (epoch_of (history_of p)) (spelling second_form u)
        (owner_tag k.surface (epoch_of (history_of p)) (spelling second_form u)) t.replies_then.answer
        answered) in
        let short : length (frames (t.one ∷ t.other ∷ [])) ≤ most + told + sent + 58 =
        omega (
          arith,
          one,
          two,
          three,
          four,
          five,
          ask_length t.one
              (t.other ∷ []),
          ask_length t.other [],
        ) in
        subst (λ (l : List Ask). length (frames l) ≤ most + told + sent + 58) (sym t.is) short

    pub all_short : (asks : List Ask) → Begins here (first ∷ second ∷ []) asks []
        → length (frames asks) ≤ most + told + sent + 58
    all_short asks begins = by_case (one_or_two here first second asks begins) where
      by_case : IsRefusedAsk here first asks ⊎ AreTwoAsks here first second asks
          → length (frames asks) ≤ most + told + sent + 58
      by_case (inl r) = refused_short asks r
      by_case (inr t) = two_short asks t

  -- ---- by the commands

  -- the answer to a question that isn't refused is Known
  known_fits : (question : Question) (u : SealedUpdate)
      → ((known : Known) → AnswersAsk c question (answers.Known known) → HasKnownForm known
      → Fits k p legal u)
      → (x : Answer) → AnswersAsk c question x → HasAnswerForm x → says_refused (answer_bytes x)
      ≡ false
      → Fits k p legal u
  known_fits question u each (answers.Known known) is form free = each known is form
  known_fits question u each (answers.Refused why) is form free = absurd (cc free)
  known_fits question u each x is form free = absurd is

  plan_fits : (file : List ℕ) (names : List (List ℕ)) (bytes : List ℕ)
      → HasRequestForm (requests.Cover file (length bytes) names)
      → (x : Answer) → AnswersCover c file (length bytes) (set_named c.users names) x
      → HasAnswerForm x
      → says_refused (answer_bytes x) ≡ false
      → Fits k p legal (spelled (names_after p)
      (sealed_update k y (PlainCreate file (set_named m.users names) bytes)))
  plan_fits file names bytes first (answers.Plan plan) is form free =
      create_fits k p legal file names bytes plan first is form
  plan_fits file names bytes first (answers.Refused why) is form free = absurd (cc free)
  plan_fits file names bytes first x is form free = absurd is

  replan_fits : (file bytes : List ℕ) → HasRequestForm (requests.Replan file (length bytes))
      → (x : Answer) → AnswersReplan c (file_named c file) (length bytes) x → HasAnswerForm x
      → says_refused (answer_bytes x) ≡ false
      → Fits k p legal (spelled (names_after p)
      (sealed_update k y (PlainReplace (file_number m file) bytes)))
  replan_fits file bytes first (answers.Plan plan) is form free =
      replace_fits k p legal file bytes plan first is form
  replan_fits file bytes first (answers.Refused why) is form free = absurd (cc free)
  replan_fits file bytes first x is form free = absurd is

  pub enrol_short : (user : List ℕ) (asks : List Ask)
      → HasRequestForm (requests.Ask (questions.Enrol user))
      → let u = spelled (names_after p) (sealed_update k y (PlainEnrol user)) in
      Begins here (requests.Ask (questions.Enrol user) ∷ update_request k.surface
      (epoch_of (history_of p)) u ∷ []) asks []
      → length (frames asks) ≤ 512
  enrol_short user asks form begins =
      let u = spelled (names_after p) (sealed_update k y (PlainEnrol user)) in
      let n = all_short (requests.Ask (questions.Enrol user)) form u
      (known_fits (questions.Enrol user) u
      (λ known is told. enrol_fits k p legal user known form.is_request is told))
      132 26 66 (question_short (questions.Enrol user) form)
      (ask_answer_short c (questions.Enrol user))
      (λ f. short_update u f refl) asks begins in
      omega (arith, n)

  pub grant_short : (user file : List ℕ) (asks : List Ask)
      → HasRequestForm (requests.Ask (questions.Grant user file))
      → let u = spelled (names_after p) (sealed_update k y (PlainGrant (user_number m user) (file_number m file))) in
      Begins here (requests.Ask (questions.Grant user file) ∷ update_request k.surface
      (epoch_of (history_of p)) u ∷ []) asks []
      → length (frames asks) ≤ 512
  grant_short user file asks form begins =
      let u = spelled (names_after p) (sealed_update k y (PlainGrant (user_number m user) (file_number m file))) in
      let n = all_short (requests.Ask (questions.Grant user file)) form u
      (known_fits (questions.Grant user file) u
      (λ known is told. grant_fits k p legal user file known is told))
      132 26 66 (question_short (questions.Grant user file) form)
      (ask_answer_short c (questions.Grant user file))
      (λ f. short_update u f refl) asks begins in
      omega (arith, n)

  pub revoke_short : (user file : List ℕ) (asks : List Ask)
      → HasRequestForm (requests.Ask (questions.Revoke user file))
      → let u = spelled (names_after p) (sealed_update k y (PlainRevoke (user_number m user) (file_number m file))) in
      Begins here (requests.Ask (questions.Revoke user file) ∷ update_request k.surface
      (epoch_of (history_of p)) u ∷ []) asks []
      → length (frames asks) ≤ 512
  revoke_short user file asks form begins =
      let u = spelled (names_after p) (sealed_update k y (PlainRevoke (user_number m user) (file_number m file))) in
      let n = all_short (requests.Ask (questions.Revoke user file)) form u
      (known_fits (questions.Revoke user file) u
      (λ known is told. revoke_fits k p legal user file known is told))
      132 26 66 (question_short (questions.Revoke user file) form)
      (ask_answer_short c (questions.Revoke user file))
      (λ f. short_update u f refl) asks begins in
      omega (arith, n)

  pub remove_short : (file : List ℕ) (asks : List Ask)
      → HasRequestForm (requests.Ask (questions.Remove file))
      → let u = spelled (names_after p) (sealed_update k y (PlainRemove (file_number m file))) in
      Begins here (requests.Ask (questions.Remove file) ∷ update_request k.surface
      (epoch_of (history_of p)) u ∷ []) asks []
      → length (frames asks) ≤ 512
  remove_short file asks form begins =
      let u = spelled (names_after p) (sealed_update k y (PlainRemove (file_number m file))) in
      let n = all_short (requests.Ask (questions.Remove file)) form u
      (known_fits (questions.Remove file) u
      (λ known is told. remove_fits k p legal file known is told))
      132 26 66 (question_short (questions.Remove file) form)
      (ask_answer_short c (questions.Remove file))
      (λ f. short_update u f refl) asks begins in
      omega (arith, n)

  pub create_short : (file : List ℕ) (names : List (List ℕ)) (bytes : List ℕ) (asks : List Ask)
      → HasRequestForm (requests.Cover file (length bytes) names)
      → let u = spelled (names_after p) (sealed_update k y (PlainCreate file (set_named m.users names) bytes)) in
      Begins here (requests.Cover file (length bytes) names ∷ update_request k.surface
      (epoch_of (history_of p)) u ∷ []) asks []
      → length (frames asks) ≤ 512 + 101 * length names + length bytes
  create_short file names bytes asks form begins =
      let u = spelled (names_after p) (sealed_update k y (PlainCreate file (set_named m.users names) bytes)) in
      let shown = list_few c.users names in
      let list = list_few m.users names in
      let n = all_short (requests.Cover file (length bytes) names) form u
      (plan_fits file names bytes form)
      (72 + 65 * length names) (16 + SET_BYTES + 4 * length names)
      (104 + SET_BYTES + 32 * length names + length bytes)
      (cover_short file (length bytes) names form)
      (λ x is. cover_answer_short c file (length bytes) (set_named c.users names)
      (length names) x is shown)
      (creation_short k y (names_after p) file (set_named m.users names) (length names) bytes list)
      asks begins in
      omega (arith, n)

  pub replace_short : (file bytes : List ℕ) (asks : List Ask)
      → HasRequestForm (requests.Replan file (length bytes))
      → let u = spelled (names_after p) (sealed_update k y (PlainReplace (file_number m file) bytes)) in
      Begins here (requests.Replan file (length bytes) ∷ update_request k.surface
      (epoch_of (history_of p)) u ∷ []) asks []
      → length (frames asks) ≤ 384 + 36 * list_size p file + length bytes
  replace_short file bytes asks form begins =
      let number = file_number m file in
      let u = spelled (names_after p) (sealed_update k y (PlainReplace number bytes)) in
      let most = list_size p file in
      let few : size (list_in y number) ≤ most = omega (arith, ap size (list_here k p legal file)) in
      let few_shown : size (list_in (outline c) (file_named c file)) ≤ most =
      omega (arith, ap size (list_shown k p legal file)) in
      let n = all_short (requests.Replan file (length bytes)) form u
      (replan_fits file bytes form)
      70 (16 + SET_BYTES + 4 * most) (104 + 32 * most + length bytes)
      (replan_short file (length bytes) form)
      (λ x is. replan_answer_short c (file_named c file) (length bytes) most x is few_shown)
      (replacement_short k y (names_after p) number most bytes few) asks begins in
      omega (arith, n)

pub transcripts_are_short : TranscriptsAreShort
transcripts_are_short k p (commands.Enrol user) asks is form legal begins =
    enrol_short k p legal user asks form begins
transcripts_are_short k p (commands.Create file names bytes) asks is form legal begins =
    create_short k p legal file names bytes asks form begins
transcripts_are_short k p (commands.Grant user file) asks is form legal begins =
    grant_short k p legal user file asks form begins
transcripts_are_short k p (commands.Revoke user file) asks is form legal begins =
    revoke_short k p legal user file asks form begins
transcripts_are_short k p (commands.Remove file) asks is form legal begins =
    remove_short k p legal file asks form begins
transcripts_are_short k p (commands.Replace file bytes) asks is form legal begins =
    replace_short k p legal file bytes asks form begins
transcripts_are_short k p command asks is form legal begins = absurd is
