-- The machine answers alike at two plain histories by which one sealed history is right.
use Rattle.std.proofs.Common.{◌≡◌, ◌∙◌, ℕ, ◌+◌, Bool, true, false, not, List, [], ◌∷◌, ◌++◌, Option}
use Rattle.std.proofs.Common.{Some, None, refl, sym, ap}
use Rattle.ov_base.specs.declared.refusal.Refusal.{Refusal}
use Rattle.ov_base.specs.declared.refusal.Refusal.TheVariants.{NoFile, NoPath, NoUser}
use Rattle.ov_script.specs.Lines.{reply_line}
use Rattle.ov_script.specs.declared.command.Command.TheVariants.{Enrol, Create, Grant, Revoke}
use Rattle.ov_script.specs.declared.command.Command.TheVariants.{Remove, Replace, Read, List as ListNames}
use Rattle.ov_script.specs.declared.command.Command.TheVariants.{Epoch as AskEpoch}
use Rattle.ov_script.specs.declared.reply.Reply.{Reply}
use Rattle.ov_script.specs.declared.reply.Reply.TheVariants.{Accepted, Bytes, Epoch as EpochIs}
use Rattle.ov_script.specs.declared.reply.Reply.TheVariants.{Refused}
use Rattle.ov_history.specs.Fading.{AgreeButGone, faded_of}
use Rattle.ov_history.specs.FadingLaws.{IsRight}
use Rattle.ov_history.specs.History.{History, Matrix, epoch_of, matrix_of}
use Rattle.ov_history.specs.Layers.{layers_of}
use Rattle.ov_history.specs.Lists.{file_number, is_file, is_listed, is_user, set_named, user_number}
use Rattle.ov_history.specs.Masters.{Masters}
use Rattle.ov_history.specs.Plain.{PlainCreate, PlainEnrol, PlainGrant, PlainHistory, PlainRemove}
use Rattle.ov_history.specs.Plain.{PlainReplace, PlainRevoke, PlainUpdate, history_of, measured}
use Rattle.ov_history.specs.Refusals.{first_of_tests, list_refusal, read_refusal, refusal_of}
use Rattle.ov_history.specs.Sealed.{SealedHistory, with_sealed}
use Rattle.ov_history.specs.Sealing.{IsSealedAs, sealed, sealed_update}
use Rattle.ov_history.proofs.Fading.{right_histories_read_alike}
use Rattle.ov_history.proofs.Sealing.{sealing_goes_on}
use Rattle.ov_model.specs.Alike.{RightHistoriesHaveSameLines, RightHistoriesStepAlike}
use Rattle.ov_model.specs.Lines.{lines}
use Rattle.ov_model.specs.Step.{after, bytes_reply, names_reply, reply_or, reply_to, update}
use Rattle.ov_model.specs.Step.{update_step}
use Rattle.ov_history.proofs.Agreeing.{agreement_goes_on}
use Rattle.ov_model.proofs.Legality.{legal-after}

-- what an update is answered with
abbrev said : History → Option Refusal → Reply
said h None = Accepted (epoch_of h + 1)
said h (Some why) = Refused why

said-is : (p : PlainHistory) (u : PlainUpdate) (found : Option Refusal)
    → (update_step p u found).0 ≡ said (history_of p) found
said-is p u None = refl
said-is p u (Some why) = refl

-- a read that isn't refused is of a file that is there
file_there : (user file listed : Bool)
    → first_of_tests
    ((NoUser, not user) ∷ (NoFile, not file) ∷ (NoPath, not listed) ∷ []) ≡ None
    → file ≡ true
file_there false file listed none = absurd (cc)
file_there true true listed none = refl
file_there true false listed none = absurd (cc)

module _ (k : Masters) (p q : PlainHistory) (g : SealedHistory) (one : IsRight k p g)
    (two : IsRight k q g) where
  agree : AgreeButGone (sealed k p) (sealed k q)
  agree = sym one.1 ∙ two.1

  same : history_of p ≡ history_of q
  same = (right_histories_read_alike k p q g one two).0

  -- each file that is there has the same bytes in both
  bytes_alike : (user file : List ℕ) (number : ℕ) (found : Option Refusal)
      → (found ≡ None → is_file (matrix_of (history_of p)) number ≡ true)
      → reply_or (bytes_reply p user file number) found
      ≡ reply_or (bytes_reply q user file number) found
  bytes_alike user file number None there =
      ap (λ (bytes : List ℕ). Bytes user file bytes)
      ((right_histories_read_alike k p q g one two).1 number (there refl))
  bytes_alike user file number (Some why) there = refl

  read_alike : (user file : List ℕ) → reply_to p (Read user file) ≡ reply_to q (Read user file)
  read_alike user file =
      let m : Matrix = matrix_of (history_of p) in
      let u : ℕ = user_number m user in
      let n : ℕ = file_number m file in
      bytes_alike user file n (read_refusal m u n)
      (file_there (is_user m u) (is_file m n) (is_listed m u n))
      ∙ (λ i. reply_or
      (bytes_reply q user file (file_number (matrix_of (same i)) file))
      (read_refusal (matrix_of (same i)) (user_number (matrix_of (same i)) user)
      (file_number (matrix_of (same i)) file)))

  -- ---- updates

  module _ (named : Matrix → PlainUpdate) where
    abbrev here : PlainHistory → PlainUpdate
    here x = named (matrix_of (history_of x))

    updates_are : here p ≡ here q
    updates_are = ap (λ (h : History). named (matrix_of h)) same

    refusals_are : refusal_of (history_of p) (measured (here p))
        ≡ refusal_of (history_of q) (measured (here q))
    refusals_are = λ i. refusal_of (same i) (measured (updates_are i))

    replied_alike : (update p (here p)).0 ≡ (update q (here q)).0
    replied_alike =
        said-is p (here p) (refusal_of (history_of p) (measured (here p)))
        ∙ (λ i. said (same i) (refusals_are i))
        ∙ sym (said-is q (here q) (refusal_of (history_of q) (measured (here q))))

    after_alike : (found : Option Refusal)
        → AgreeButGone (sealed k (update_step p (here p) found).1)
        (sealed k (update_step q (here q) found).1)
    after_alike None =
        ap (λ (it : SealedHistory). faded_of it) (sealing_goes_on k p (here p))
        ∙ agreement_goes_on (sealed k p) (sealed k q)
        (sealed_update k (layers_of (history_of p)) (here p)) agree
        ∙ (λ i. faded_of
        (with_sealed (sealed k q) (sealed_update k (layers_of (same i)) (updates_are i))))
        ∙ ap (λ (it : SealedHistory). faded_of it) (sym (sealing_goes_on k q (here q)))
    after_alike (Some why) = agree

    goes_alike : (next : SealedHistory) → IsSealedAs k (update p (here p)).1 next
        → IsSealedAs k (update q (here q)).1 next
    goes_alike next right =
        right ∙ after_alike (refusal_of (history_of p) (measured (here p)))
        ∙ ap (λ (found : Option Refusal). faded_of (sealed k (update_step q (here q) found).1))
        refusals_are

-- ---- the laws

pub right_histories_step_alike : RightHistoriesStepAlike
right_histories_step_alike k p q g next (Enrol user) one two =
    let named : Matrix → PlainUpdate = λ m. PlainEnrol user in
    (replied_alike k p q g one two named, goes_alike k p q g one two named next)
right_histories_step_alike k p q g next (Create file list bytes) one two =
    let named : Matrix → PlainUpdate = λ m. PlainCreate file (set_named m.users list) bytes in
    (replied_alike k p q g one two named, goes_alike k p q g one two named next)
right_histories_step_alike k p q g next (Grant user file) one two =
    let named : Matrix → PlainUpdate =
    λ m. PlainGrant (user_number m user) (file_number m file) in
    (replied_alike k p q g one two named, goes_alike k p q g one two named next)
right_histories_step_alike k p q g next (Revoke user file) one two =
    let named : Matrix → PlainUpdate =
    λ m. PlainRevoke (user_number m user) (file_number m file) in
    (replied_alike k p q g one two named, goes_alike k p q g one two named next)
right_histories_step_alike k p q g next (Remove file) one two =
    let named : Matrix → PlainUpdate = λ m. PlainRemove (file_number m file) in
    (replied_alike k p q g one two named, goes_alike k p q g one two named next)
right_histories_step_alike k p q g next (Replace file bytes) one two =
    let named : Matrix → PlainUpdate = λ m. PlainReplace (file_number m file) bytes in
    (replied_alike k p q g one two named, goes_alike k p q g one two named next)
right_histories_step_alike k p q g next (Read user file) one two =
    (read_alike k p q g one two user file, λ right. right ∙ agree k p q g one two)
right_histories_step_alike k p q g next (ListNames file) one two =
    let is : history_of p ≡ history_of q = same k p q g one two in (
      λ i. reply_or
          (names_reply (matrix_of (is i)) file (file_number (matrix_of (is i)) file))
          (list_refusal (matrix_of (is i)) (file_number (matrix_of (is i)) file)),
      λ right. right ∙ agree k p q g one two,
    )
right_histories_step_alike k p q g next AskEpoch one two =
    let is : history_of p ≡ history_of q = same k p q g one two in
    (λ i. EpochIs (epoch_of (is i)), λ right. right ∙ agree k p q g one two)

pub right_histories_have_same_lines : RightHistoriesHaveSameLines
right_histories_have_same_lines k p q g [] one two = refl
right_histories_have_same_lines k p q g (command ∷ commands) one two =
    let next : SealedHistory = sealed k (after p command) in
    let (same_reply, goes) = right_histories_step_alike k p q g next command one two in
    ap (λ (reply : Reply). reply_line reply ++ lines (after p command) commands) same_reply
    ∙ ap (λ (rest : List ℕ). reply_line (reply_to q command) ++ rest)
    (right_histories_have_same_lines k (after p command) (after q command) next commands
    ((legal-after p command one.0).0, refl) ((legal-after q command two.0).0, goes refl))
