-- What is sent for a replacement has its new bytes, and doesn't depend on those of other files.
use Rattle.std.proofs.Common.{◌≡◌, ◌∙◌, ℕ, false, List, [], ◌∷◌, length, None, refl, sym, ap}
use Rattle.ov_graph.specs.Contents.{plan_of}
use Rattle.ov_record.specs.Updates.{SealedReplace, SealedUpdate}
use Rattle.ov_history.specs.Asking.{file_named, refusal_at}
use Rattle.ov_history.specs.Catalogue.{Catalogue, outline}
use Rattle.ov_history.specs.History.{Matrix, Replaced, Update, epoch_of, matrix_of}
use Rattle.ov_history.specs.Layers.{Layers, layers_of, list_in}
use Rattle.ov_history.specs.Lists.{byte_sum, file_number}
use Rattle.ov_history.specs.Masters.{Masters}
use Rattle.ov_history.specs.Places.{change_at, gone}
use Rattle.ov_history.specs.Plain.{PlainHistory, PlainUpdate, history_of, PlainReplace}
use Rattle.ov_history.specs.Refusals.{IsLegal, refusal_of, tests_of}
use Rattle.ov_history.specs.Sealed.{catalogue_of}
use Rattle.ov_history.specs.Sealing.{sealed, sealed_tag, sealed_text, sealed_tokens, sealed_update}
use Rattle.ov_history.specs.Sent.{numbered, spelled}
use Rattle.ov_history.proofs.Outlining.{length-places}
use Rattle.ov_wire.specs.declared.request.Request.TheVariants as requests
use Rattle.ov_wire.specs.declared.answer.Plan.{Plan}
use Rattle.ov_wire.specs.declared.answer.Answer.{Answer}
use Rattle.ov_wire.specs.declared.answer.Answer.TheVariants as answers
use Rattle.ov_wire.specs.AnswerBytes.{answer_bytes}
use Rattle.ov_wire.specs.AnswerForm.{HasAnswerForm}
use Rattle.ov_wire.specs.Requests.{HasRequestForm}
use Rattle.ov_protocol.specs.Asking.{AnswersReplan, plan_for}
use Rattle.ov_peer.specs.Asks.{Ask}
use Rattle.ov_owner.specs.Talks.{update_request}
use Rattle.ov_owner.proofs.Telling.{names_after, refused_as, spelled_as}
use Rattle.ov_transcript.specs.Bytes.{DifferInBytes, other_bytes}
use Rattle.ov_transcript.specs.Laws.{ReplacementsSendNewBytes}
use Rattle.ov_transcript.specs.Transcripts.{Begins, says_refused, service_of}
use Rattle.ov_transcript.proofs.Alike.{same_file, same_replacement}
use Rattle.ov_transcript.proofs.Forms.{Fits, replace_fits}
use Rattle.ov_transcript.proofs.SameUpdates.{begins_there, file_too, refused_alike, same_outline}

-- the plan that is told of a list, from the layers
abbrev plan_in : Layers → ℕ → Plan
plan_in y list = record {
  epoch = y.epoch;
  file = length y.files;
  list = list;
  node = (plan_of y.base list).node;
  fresh = (plan_of y.base list).fresh;
  from = (plan_of y.base list).from;
}

plan_here : (c : Catalogue) (list : ℕ) → plan_for c list ≡ plan_in (outline c) list
plan_here c list =
    ap (λ (n : ℕ). record (plan_for c list) { file = n }) (sym (length-places c.files))

module _ (k : Masters) (p q : PlainHistory) (legal : IsLegal (history_of p))
    (also : IsLegal (history_of q)) (d : DifferInBytes p q)
    (file bytes : List ℕ) (room : other_bytes p file ≡ other_bytes q file) where
  abbrev c : Catalogue
  c = catalogue_of k.surface (sealed k p)

  abbrev e : Catalogue
  e = catalogue_of k.surface (sealed k q)

  abbrev m : Matrix
  m = matrix_of (history_of p)

  abbrev n : Matrix
  n = matrix_of (history_of q)

  abbrev replaced_named : Matrix → PlainUpdate
  replaced_named x = PlainReplace (file_number x file) bytes

  abbrev replaced_at : Matrix → Update
  replaced_at x = Replaced (file_number x file) (length bytes)

  -- the number of the file is the same in both
  same_tests : tests_of m (layers_of (history_of p)) (epoch_of (history_of p)) (replaced_at m)
      ≡ tests_of n (layers_of (history_of p)) (epoch_of (history_of p)) (replaced_at m)
  same_tests =
      same_replacement p q d (layers_of (history_of p)) (epoch_of (history_of p))
      (file_number m file) (length bytes)
      (room
      ∙ ap (λ (number : ℕ). byte_sum (change_at gone number n.files)) (sym (same_file p q d file)))

  same_named : replaced_named m ≡ replaced_named n
  same_named = λ i. PlainReplace (same_file p q d file i) bytes

  replaced_alike : refusal_of (history_of p) (replaced_at m)
      ≡ refusal_of (history_of q) (replaced_at n)
  replaced_alike =
      refused_alike k p q legal also d replaced_named replaced_at (λ x. refl) same_tests same_named

  refused_there_too : refusal_at c (Replaced (file_named c file) (length bytes))
      ≡ refusal_at e (Replaced (file_named e file) (length bytes))
  refused_there_too =
      refused_as k p legal replaced_at ∙ replaced_alike ∙ sym (refused_as k q also replaced_at)

  plans_alike : plan_for c (list_in (outline c) (file_named c file))
      ≡ plan_for e (list_in (outline e) (file_named e file))
  plans_alike =
      plan_here c (list_in (outline c) (file_named c file))
      ∙ (λ i. plan_in (same_outline k p q legal also d i)
      (list_in (same_outline k p q legal also d i) (file_too k p q legal also d file i)))
      ∙ sym (plan_here e (list_in (outline e) (file_named e file)))

  replan_alike : (x : Answer) → AnswersReplan c (file_named c file) (length bytes) x
      → AnswersReplan e (file_named e file) (length bytes) x
  replan_alike (answers.Plan plan) (none, told) =
      (sym refused_there_too ∙ none, told ∙ plans_alike)
  replan_alike (answers.Refused why) some = sym refused_there_too ∙ some
  replan_alike x told = absurd told

  abbrev replacement : SealedUpdate
  replacement =
      spelled (names_after p)
      (sealed_update k (layers_of (history_of p)) (PlainReplace (file_number m file) bytes))

  replan_fits : HasRequestForm (requests.Replan file (length bytes))
      → (x : Answer) → AnswersReplan c (file_named c file) (length bytes) x → HasAnswerForm x
      → says_refused (answer_bytes x) ≡ false
      → Fits k p legal replacement × (refusal_of (history_of p) (replaced_at m) ≡ None)
  replan_fits form (answers.Plan plan) told has unrefused = (
    replace_fits k p legal file bytes plan form told has,
    sym (refused_as k p legal replaced_at)
        ∙ told.0,
  )
  replan_fits form (answers.Refused why) told has unrefused = absurd (cc unrefused)
  replan_fits form x told has unrefused = absurd told

  -- where it isn't refused, it is spelled with the name of the file, which has its number
  number_back : refusal_of (history_of p) (replaced_at m) ≡ None
      → numbered (names_after p) replacement
      ≡ sealed_update k (layers_of (history_of p)) (PlainReplace (file_number m file) bytes)
  number_back free =
      let y : Layers = layers_of (history_of p) in
      let list : ℕ = list_in y (file_number m file) in
      let by_name : SealedUpdate =
      SealedReplace file (sealed_tokens k y list) (sealed_tag k y list bytes)
      (sealed_text k y list bytes) in
      ap (λ (x : SealedUpdate). numbered (names_after p) x)
      (spelled_as k p legal (PlainReplace (file_number m file) bytes) by_name refl free)

  pub replace_there : (asks : List Ask) → HasRequestForm (requests.Replan file (length bytes))
      → Begins (service_of k p) (requests.Replan file (length bytes)
      ∷ update_request k.surface (epoch_of (history_of p)) (spelled (names_after p)
      (sealed_update k (layers_of (history_of p)) (PlainReplace (file_number m file) bytes)))
      ∷ []) asks []
      → Begins (service_of k q) (requests.Replan file (length bytes)
      ∷ update_request k.surface (epoch_of (history_of q)) (spelled (names_after q)
      (sealed_update k (layers_of (history_of q)) (PlainReplace (file_number n file) bytes)))
      ∷ []) asks []
  replace_there asks form begins =
      begins_there k p q legal also d replaced_named replaced_at (λ x. refl) same_tests same_named
      (requests.Replan file (length bytes)) form refl replan_alike (replan_fits form) number_back
      asks begins

pub replacements_send_new_bytes : ReplacementsSendNewBytes
replacements_send_new_bytes k p q file bytes asks form legal also d room begins =
    replace_there k p q legal also d file bytes room asks form begins
