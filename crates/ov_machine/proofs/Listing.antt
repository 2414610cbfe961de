-- The replies to questions: the epoch, and the names in a list.
use Rattle.std.proofs.Common.{◌≡◌, ◌∙◌, ℕ, List, [], ◌∷◌, Bool, true, false, Some, None, sym, ap, subst, inl}
use Rattle.ov_base.specs.declared.refusal.Refusal.{Refusal}
use Rattle.ov_base.specs.declared.refusal.Refusal.TheVariants.{NoFile}
use Rattle.ov_fields.specs.Spelling.{IsOneOf}
use Rattle.ov_history.specs.Asking.{file_named}
use Rattle.ov_history.specs.Catalogue.{Catalogue, matrix_shown}
use Rattle.ov_history.specs.History.{Matrix, matrix_of}
use Rattle.ov_history.specs.Lists.{file_number}
use Rattle.ov_history.specs.Plain.{PlainHistory, history_of}
use Rattle.ov_history.specs.Refusals.{first_of_tests, list_refusal}
use Rattle.ov_script.specs.declared.command.Command.TheVariants.{Epoch as AskEpoch, List as ListNames}
use Rattle.ov_script.specs.declared.reply.Reply.TheVariants.{Epoch as EpochIs, List as Listed, Refused}
use Rattle.ov_model.specs.Step.{names_reply, reply_or, reply_to}
use Rattle.ov_wire.specs.declared.answer.Answer.{Answer}
use Rattle.ov_wire.specs.declared.answer.Answer.TheVariants as answers
use Rattle.ov_wire.specs.declared.request.Question.TheVariants as questions
use Rattle.ov_wire.specs.declared.request.Request.TheVariants as requests
use Rattle.ov_wire.specs.AnswerForm.{HasAnswerForm}
use Rattle.ov_wire.specs.AnswersTo.{IsAnswer}
use Rattle.ov_wire.specs.Requests.{HasRequestForm}
use Rattle.ov_protocol.specs.Reading.{AnswersList}
use Rattle.ov_owner.proofs.Fitting.{ask_fits}
use Rattle.ov_machine.specs.Machine.{Kept, StandsAsTold}
use Rattle.ov_machine.proofs.AsTold.{shows_as_told}
use Rattle.ov_machine.proofs.Questioning.{IsPlainQuestion}

-- ---- plain questions

pub hello_plain : HasRequestForm requests.Hello → IsPlainQuestion requests.Hello
hello_plain form = record {
  form = form;
  quiet = λ x. x;
  fits = λ s a is form. subst (IsAnswer requests.Hello) (sym is)
      (subst HasAnswerForm is form);
}

list_refused : (test : Bool) (why : Refusal) → first_of_tests ((NoFile, test) ∷ []) ≡ Some why
    → IsOneOf why (NoFile ∷ [])
list_refused true why is = inl (let same : Some NoFile ≡ Some why = is in cc)
list_refused false why is = absurd (let none : None ≡ Some why = is in cc)

list_fits : (c : Catalogue) (file : List ℕ) (n : ℕ) (a : Answer) → AnswersList c n a
    → HasAnswerForm a → IsAnswer (requests.List file) a
list_fits c file n (answers.Listed names) is form = form
list_fits c file n (answers.Refused why) is form = list_refused _ why is
list_fits c file n a is form = absurd is

pub list_plain : (file : List ℕ) → HasRequestForm (requests.List file)
    → IsPlainQuestion (requests.List file)
list_plain file form = record {
  form = form;
  quiet = λ x. x;
  fits = λ s a is. list_fits s.catalogue file (file_named s.catalogue file) a is;
}

pub key_plain : (user : List ℕ) → HasRequestForm (requests.Ask (questions.Key user))
    → IsPlainQuestion (requests.Ask (questions.Key user))
key_plain user form = record {
  form = form;
  quiet = λ x. x;
  fits = λ s. ask_fits s.catalogue (questions.Key user) tt;
}

-- ---- at a history for which the machine stands as far as its disk tells

module _ (old : Kept) (p : PlainHistory) (stands : StandsAsTold old p) where
  pub epoch_is : EpochIs old.catalogue.epoch ≡ reply_to p AskEpoch
  epoch_is = ap EpochIs (shows_as_told old p stands).epoch

  list_named : (file : List ℕ)
      → list_refusal (matrix_shown old.catalogue) (file_named old.catalogue file)
      ≡ list_refusal (matrix_of (history_of p)) (file_number (matrix_of (history_of p)) file)
  list_named file =
      ap (λ (m : Matrix). list_refusal m (file_number m file)) (shows_as_told old p stands).matrix

  -- names that are listed, and a refusal, are the machine's reply
  pub list_is : (file : List ℕ) (names : List (List ℕ))
      → AnswersList old.catalogue (file_named old.catalogue file) (answers.Listed names)
      → Listed file names ≡ reply_to p (ListNames file)
  list_is file names (allowed, is) =
      let m = matrix_of (history_of p) in
      let given : Listed file names
      ≡ names_reply (matrix_shown old.catalogue) file (file_named old.catalogue file) =
      ap (Listed file) is in
      let none : list_refusal m (file_number m file) ≡ None = sym (list_named file) ∙ allowed in
      given ∙ ap (λ (n : Matrix). names_reply n file (file_number n file)) (shows_as_told old p stands).matrix
      ∙ sym (ap (reply_or (names_reply m file (file_number m file))) none)

  pub refused_is : (file : List ℕ) (why : Refusal)
      → AnswersList old.catalogue (file_named old.catalogue file) (answers.Refused why)
      → Refused why ≡ reply_to p (ListNames file)
  refused_is file why is =
      let m = matrix_of (history_of p) in
      sym (ap (reply_or (names_reply m file (file_number m file))) (sym (list_named file) ∙ is))
