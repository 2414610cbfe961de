-- What is sent for a grant, a revocation and a removal doesn't depend on the files' bytes.
use Rattle.std.proofs.Common.{◌≡◌, ◌∙◌, ℕ, false, not, List, [], ◌∷◌, None, refl, sym}
use Rattle.ov_base.specs.Sets.{has}
use Rattle.ov_record.specs.Updates.{SealedUpdate}
use Rattle.ov_script.specs.declared.command.Command.TheVariants as commands
use Rattle.ov_history.specs.Catalogue.{Catalogue}
use Rattle.ov_history.specs.History.{Granted, Matrix, Removed, Revoked, Update, epoch_of, matrix_of}
use Rattle.ov_history.specs.Layers.{Layers, holders, layers_of, node_of, root_of}
use Rattle.ov_history.specs.Lists.{file_number, user_number}
use Rattle.ov_history.specs.Masters.{Masters}
use Rattle.ov_history.specs.Plain.{PlainGrant, PlainHistory, PlainRevoke, PlainUpdate, history_of}
use Rattle.ov_history.specs.Plain.{PlainRemove, measured}
use Rattle.ov_history.specs.Refusals.{IsLegal, refusal_of, tests_of}
use Rattle.ov_history.specs.Sealed.{catalogue_of}
use Rattle.ov_history.specs.Sealing.{sealed, sealed_update}
use Rattle.ov_history.specs.Sent.{numbered, spelled}
use Rattle.ov_wire.specs.declared.request.Question.{Question}
use Rattle.ov_wire.specs.declared.request.Question.TheVariants as questions
use Rattle.ov_wire.specs.declared.request.Request.TheVariants as requests
use Rattle.ov_wire.specs.declared.answer.Known.{Known}
use Rattle.ov_wire.specs.declared.answer.Answer.{Answer}
use Rattle.ov_wire.specs.declared.answer.Answer.TheVariants as answers
use Rattle.ov_wire.specs.AnswerBytes.{answer_bytes}
use Rattle.ov_wire.specs.AnswerForm.{HasAnswerForm, HasKnownForm}
use Rattle.ov_wire.specs.Requests.{HasRequestForm}
use Rattle.ov_protocol.specs.Asking.{AnswersAsk, known_at, numbers_for, refusal_to}
use Rattle.ov_peer.specs.Asks.{Ask}
use Rattle.ov_owner.specs.Talks.{update_request}
use Rattle.ov_owner.proofs.Telling.{names_after, refused_as}
use Rattle.ov_transcript.specs.Bytes.{DifferInBytes}
use Rattle.ov_transcript.specs.Laws.{GrantsSendNoBytes}
use Rattle.ov_transcript.specs.Transcripts.{Begins, says_refused, service_of}
use Rattle.ov_transcript.proofs.Alike.{same_file, same_grant}
use Rattle.ov_transcript.proofs.Alike.{same_removal, same_revocation, same_user}
use Rattle.ov_transcript.proofs.Forms.{Fits, grant_fits, remove_fits, revoke_fits}
use Rattle.ov_transcript.proofs.SameUpdates.{begins_there, file_too, refused_alike, same_outline}
use Rattle.ov_transcript.proofs.SameUpdates.{user_too}

-- the numbers that are told for a grant, a revocation and a removal, from the layers
abbrev numbers_of_grant : Layers → ℕ → ℕ → Known
numbers_of_grant y user file = record {
  epoch = y.epoch;
  user = user;
  base_root = root_of y.base user;
  surface_root = root_of y.surface user;
  file = file;
  node = node_of y file;
  wants = not (has (holders y (node_of y file)) user);
}

abbrev numbers_of_both : Layers → ℕ → ℕ → Known
numbers_of_both y user file = record (numbers_of_grant y user file) { wants = false }

abbrev numbers_of_removal : Layers → ℕ → Known
numbers_of_removal y file = record {
  epoch = y.epoch;
  user = 0;
  base_root = 0;
  surface_root = 0;
  file = file;
  node = node_of y file;
  wants = false;
}

module _ (k : Masters) (p q : PlainHistory) (legal : IsLegal (history_of p))
    (also : IsLegal (history_of q)) (d : DifferInBytes p q) where
  abbrev c : Catalogue
  c = catalogue_of k.surface (sealed k p)

  abbrev e : Catalogue
  e = catalogue_of k.surface (sealed k q)

  abbrev m : Matrix
  m = matrix_of (history_of p)

  abbrev n : Matrix
  n = matrix_of (history_of q)

  -- ---- where a question is asked first

  module _ (named : Matrix → PlainUpdate) (u : Matrix → Update)
      (is : (x : Matrix) → measured (named x) ≡ u x)
      (tests : tests_of m (layers_of (history_of p)) (epoch_of (history_of p)) (u m)
      ≡ tests_of n (layers_of (history_of p)) (epoch_of (history_of p)) (u m))
      (same : named m ≡ named n) (question : Question)
      (refuses : (x : PlainHistory) → IsLegal (history_of x)
      → refusal_to (catalogue_of k.surface (sealed k x)) question
      ≡ refusal_of (history_of x) (u (matrix_of (history_of x))))
      (tells : known_at c (numbers_for c question) ≡ known_at e (numbers_for e question)) where
    abbrev sent : SealedUpdate
    sent = spelled (names_after p) (sealed_update k (layers_of (history_of p)) (named m))

    abbrev sent_too : SealedUpdate
    sent_too = spelled (names_after q) (sealed_update k (layers_of (history_of q)) (named n))

    both_refuse : refusal_to c question ≡ refusal_to e question
    both_refuse =
        refuses p legal ∙ refused_alike k p q legal also d named u is tests same
        ∙ sym (refuses q also)

    question_alike : (x : Answer) → AnswersAsk c question x → AnswersAsk e question x
    question_alike (answers.Known known) (none, told) = (sym both_refuse ∙ none, told ∙ tells)
    question_alike (answers.Refused why) some = sym both_refuse ∙ some
    question_alike x told = absurd told

    module _ (form : HasRequestForm (requests.Ask question))
        (fits : (known : Known) → AnswersAsk c question (answers.Known known)
        → HasKnownForm known → Fits k p legal sent)
        (back : numbered (names_after p) sent
        ≡ sealed_update k (layers_of (history_of p)) (named m)) where
      question_fits : (x : Answer) → AnswersAsk c question x → HasAnswerForm x
          → says_refused (answer_bytes x) ≡ false
          → Fits k p legal sent × (refusal_of (history_of p) (u m) ≡ None)
      question_fits (answers.Known known) told has unrefused =
          (fits known told has, sym (refuses p legal) ∙ told.0)
      question_fits (answers.Refused why) told has unrefused = absurd (cc unrefused)
      question_fits x told has unrefused = absurd told

      question_there : (asks : List Ask)
          → Begins (service_of k p) (requests.Ask question
          ∷ update_request k.surface (epoch_of (history_of p)) sent ∷ []) asks []
          → Begins (service_of k q) (requests.Ask question
          ∷ update_request k.surface (epoch_of (history_of q)) sent_too ∷ []) asks []
      question_there asks begins =
          begins_there k p q legal also d named u is tests same (requests.Ask question) form refl
          question_alike question_fits (λ free. back) asks begins

  -- ---- the three commands

  pub grant_there : (user file : List ℕ) (asks : List Ask)
      → HasRequestForm (requests.Ask (questions.Grant user file))
      → Begins (service_of k p) (requests.Ask (questions.Grant user file)
      ∷ update_request k.surface (epoch_of (history_of p))
      (spelled (names_after p) (sealed_update k (layers_of (history_of p))
      (PlainGrant (user_number m user) (file_number m file)))) ∷ []) asks []
      → Begins (service_of k q) (requests.Ask (questions.Grant user file)
      ∷ update_request k.surface (epoch_of (history_of q))
      (spelled (names_after q) (sealed_update k (layers_of (history_of q))
      (PlainGrant (user_number n user) (file_number n file)))) ∷ []) asks []
  grant_there user file asks form begins =
      question_there (λ x. PlainGrant (user_number x user) (file_number x file))
      (λ x. Granted (user_number x user) (file_number x file)) (λ x. refl)
      (same_grant p q d (layers_of (history_of p)) (epoch_of (history_of p)) (user_number m user)
      (file_number m file))
      (λ i. PlainGrant (same_user p q d user i) (same_file p q d file i))
      (questions.Grant user file)
      (λ x right. refused_as k x right (λ y. Granted (user_number y user) (file_number y file)))
      (λ i. numbers_of_grant (same_outline k p q legal also d i) (user_too k p q legal also d user i)
      (file_too k p q legal also d file i))
      form (λ known is told. grant_fits k p legal user file known is told) refl asks begins

  pub revoke_there : (user file : List ℕ) (asks : List Ask)
      → HasRequestForm (requests.Ask (questions.Revoke user file))
      → Begins (service_of k p) (requests.Ask (questions.Revoke user file)
      ∷ update_request k.surface (epoch_of (history_of p))
      (spelled (names_after p) (sealed_update k (layers_of (history_of p))
      (PlainRevoke (user_number m user) (file_number m file)))) ∷ []) asks []
      → Begins (service_of k q) (requests.Ask (questions.Revoke user file)
      ∷ update_request k.surface (epoch_of (history_of q))
      (spelled (names_after q) (sealed_update k (layers_of (history_of q))
      (PlainRevoke (user_number n user) (file_number n file)))) ∷ []) asks []
  revoke_there user file asks form begins =
      question_there (λ x. PlainRevoke (user_number x user) (file_number x file))
      (λ x. Revoked (user_number x user) (file_number x file)) (λ x. refl)
      (same_revocation p q d (layers_of (history_of p)) (epoch_of (history_of p))
      (user_number m user) (file_number m file))
      (λ i. PlainRevoke (same_user p q d user i) (same_file p q d file i))
      (questions.Revoke user file)
      (λ x right. refused_as k x right (λ y. Revoked (user_number y user) (file_number y file)))
      (λ i. numbers_of_both (same_outline k p q legal also d i) (user_too k p q legal also d user i)
      (file_too k p q legal also d file i))
      form (λ known is told. revoke_fits k p legal user file known is told) refl asks begins

  pub remove_there : (file : List ℕ) (asks : List Ask)
      → HasRequestForm (requests.Ask (questions.Remove file))
      → Begins (service_of k p) (requests.Ask (questions.Remove file)
      ∷ update_request k.surface (epoch_of (history_of p))
      (spelled (names_after p) (sealed_update k (layers_of (history_of p))
      (PlainRemove (file_number m file)))) ∷ []) asks []
      → Begins (service_of k q) (requests.Ask (questions.Remove file)
      ∷ update_request k.surface (epoch_of (history_of q))
      (spelled (names_after q) (sealed_update k (layers_of (history_of q))
      (PlainRemove (file_number n file)))) ∷ []) asks []
  remove_there file asks form begins =
      question_there (λ x. PlainRemove (file_number x file))
      (λ x. Removed (file_number x file)) (λ x. refl)
      (same_removal p q d (layers_of (history_of p)) (epoch_of (history_of p)) (file_number m file))
      (λ i. PlainRemove (same_file p q d file i))
      (questions.Remove file)
      (λ x right. refused_as k x right (λ y. Removed (file_number y file)))
      (λ i. numbers_of_removal (same_outline k p q legal also d i)
      (file_too k p q legal also d file i))
      form (λ known is told. remove_fits k p legal file known is told) refl asks begins

pub grants_send_no_bytes : GrantsSendNoBytes
grants_send_no_bytes k p q (commands.Grant user file) asks is form legal also d begins =
    grant_there k p q legal also d user file asks form begins
grants_send_no_bytes k p q (commands.Revoke user file) asks is form legal also d begins =
    revoke_there k p q legal also d user file asks form begins
grants_send_no_bytes k p q (commands.Remove file) asks is form legal also d begins =
    remove_there k p q legal also d file asks form begins
grants_send_no_bytes k p q command asks is form legal also d begins = absurd is
