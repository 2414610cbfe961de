-- The history after commands is the one before them with more updates, so what was gone stays gone.
use Rattle.std.proofs.Common.{◌≡◌, ◌∙◌, List, [], ◌∷◌, ◌++◌, Option, Some, None, refl, sym, ap, subst}
use Rattle.std.proofs.Common.{append_assoc}
use Rattle.std.proofs.lemmas.List.{append-nil}
use Rattle.ov_base.specs.declared.refusal.Refusal.{Refusal}
use Rattle.ov_script.specs.declared.command.Command.{Command}
use Rattle.ov_script.specs.declared.command.Command.TheVariants.{Enrol, Create, Grant, Revoke}
use Rattle.ov_script.specs.declared.command.Command.TheVariants.{Remove, Replace, Read, List as ListNames}
use Rattle.ov_script.specs.declared.command.Command.TheVariants.{Epoch as AskEpoch}
use Rattle.ov_history.specs.History.{Matrix, matrix_of}
use Rattle.ov_history.specs.Lists.{file_number, set_named, user_number}
use Rattle.ov_history.specs.Plain.{PlainCreate, PlainEnrol, PlainGrant, PlainHistory, PlainRemove}
use Rattle.ov_history.specs.Plain.{PlainReplace, PlainRevoke, PlainUpdate, history_of, measured}
use Rattle.ov_history.specs.Refusals.{refusal_of}
use Rattle.ov_history.specs.Sealing.{IsSealedAs, IsSealedSince}
use Rattle.ov_history.specs.Words.{longer_plain}
use Rattle.ov_history.proofs.Since.{sealed_since_is_right}
use Rattle.ov_model.specs.Since.{SealedFormsAreRight}
use Rattle.ov_model.specs.Step.{after, after_all, update, update_step}

-- the second history is the first with more updates
abbrev IsLonger : PlainHistory → PlainHistory → Type 0
IsLonger p q = (more : List PlainUpdate) × (q ≡ longer_plain p more)

no_longer : (p : PlainHistory) → IsLonger p p
no_longer p =
    ([], ap (λ (us : List PlainUpdate). record p { updates = us }) (sym (append-nil p.updates)))

longer_still : (p q r : PlainHistory) → IsLonger p q → IsLonger q r → IsLonger p r
longer_still p q r (more, is) (then, so) = (
  more ++ then,
  so ∙ ap (λ (x : PlainHistory). longer_plain x then) is
      ∙ ap (λ (us : List PlainUpdate). record p { updates = us })
      (append_assoc p.updates more then),
)

-- after an update, whether it is refused or not
longer_step : (p : PlainHistory) (u : PlainUpdate) (found : Option Refusal)
    → IsLonger p (update_step p u found).1
longer_step p u None = (u ∷ [], refl)
longer_step p u (Some why) = no_longer p

longer_update : (p : PlainHistory) (u : PlainUpdate) → IsLonger p (update p u).1
longer_update p u = longer_step p u (refusal_of (history_of p) (measured u))

longer_after : (p : PlainHistory) (command : Command) → IsLonger p (after p command)
longer_after p (Enrol user) = longer_update p (PlainEnrol user)
longer_after p (Create file list bytes) =
    let m : Matrix = matrix_of (history_of p) in
    longer_update p (PlainCreate file (set_named m.users list) bytes)
longer_after p (Grant user file) =
    let m : Matrix = matrix_of (history_of p) in
    longer_update p (PlainGrant (user_number m user) (file_number m file))
longer_after p (Revoke user file) =
    let m : Matrix = matrix_of (history_of p) in
    longer_update p (PlainRevoke (user_number m user) (file_number m file))
longer_after p (Remove file) =
    let m : Matrix = matrix_of (history_of p) in
    longer_update p (PlainRemove (file_number m file))
longer_after p (Replace file bytes) =
    let m : Matrix = matrix_of (history_of p) in
    longer_update p (PlainReplace (file_number m file) bytes)
longer_after p (Read user file) = no_longer p
longer_after p (ListNames file) = no_longer p
longer_after p AskEpoch = no_longer p

longer_all : (p : PlainHistory) (commands : List Command) → IsLonger p (after_all p commands)
longer_all p [] = no_longer p
longer_all p (command ∷ commands) =
    let next : PlainHistory = after p command in
    longer_still p next (after_all next commands) (longer_after p command)
    (longer_all next commands)

pub sealed_forms_are_right : SealedFormsAreRight
sealed_forms_are_right k p commands g since =
    let (more, is) = longer_all p commands in
    subst (λ (q : PlainHistory). IsSealedAs k q g) (sym is)
    (sealed_since_is_right k p more g
    (subst (λ (q : PlainHistory). IsSealedSince k p q g) is since))
