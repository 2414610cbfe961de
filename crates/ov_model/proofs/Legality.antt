-- Legal histories stay legal, and of their mode.
use Rattle.std.proofs.Common.{◌≡◌, List, [], ◌∷◌, refl, sym, ◌∙◌, subst, Option, Some, None}
use Rattle.ov_base.specs.declared.refusal.Refusal.{Refusal}
use Rattle.ov_script.specs.declared.command.Command.{Command}
use Rattle.ov_script.specs.declared.command.Command.TheVariants.{Enrol, Create, Grant, Revoke, Remove, Replace, Read, List as ListNames, Epoch as AskEpoch}
use Rattle.ov_history.specs.History.{History, matrix_of}
use Rattle.ov_history.specs.Plain.{PlainUpdate, PlainEnrol, PlainCreate, PlainGrant, PlainRevoke, PlainRemove, PlainReplace, PlainHistory, history_of, measured}
use Rattle.ov_history.specs.Lists.{user_number, file_number, set_named}
use Rattle.ov_history.specs.Refusals.{IsLegal, refusal_of}
use Rattle.ov_history.proofs.Keeping.{legal-push}
use Rattle.ov_history.proofs.PlainLaws.{history_of-push}
use Rattle.ov_model.specs.Step.{after, after_all, update_step}

-- a legal history of the mode of this one
abbrev pub IsLegalLike : PlainHistory → PlainHistory → Type 0
IsLegalLike h next = IsLegal (history_of next) × (next.mode ≡ h.mode)

-- after an update, whether it is refused or not
legal-update : (h : PlainHistory) (u : PlainUpdate) (found : Option Refusal) → refusal_of (history_of h) (measured u) ≡ found
    → IsLegal (history_of h) → IsLegalLike h (update_step h u found).1
legal-update h u None is legal = (
  subst (λ (g : History). IsLegal g) (sym (history_of-push h u)) (legal-push (history_of h) (measured u) legal is),
  refl,
)
legal-update h u (Some why) is legal = (legal, refl)

-- after a command
pub legal-after : (h : PlainHistory) (command : Command) → IsLegal (history_of h) → IsLegalLike h (after h command)
legal-after h (Enrol user) legal = let u : PlainUpdate = PlainEnrol user in legal-update h u (refusal_of (history_of h) (measured u)) refl legal
legal-after h (Create file list bytes) legal =
    let u : PlainUpdate = PlainCreate file (set_named (matrix_of (history_of h)).users list) bytes in legal-update h u (refusal_of (history_of h) (measured u)) refl legal
legal-after h (Grant user file) legal =
    let u : PlainUpdate = PlainGrant (user_number (matrix_of (history_of h)) user) (file_number (matrix_of (history_of h)) file) in
    legal-update h u (refusal_of (history_of h) (measured u)) refl legal
legal-after h (Revoke user file) legal =
    let u : PlainUpdate = PlainRevoke (user_number (matrix_of (history_of h)) user) (file_number (matrix_of (history_of h)) file) in
    legal-update h u (refusal_of (history_of h) (measured u)) refl legal
legal-after h (Remove file) legal =
    let u : PlainUpdate = PlainRemove (file_number (matrix_of (history_of h)) file) in
    legal-update h u (refusal_of (history_of h) (measured u)) refl legal
legal-after h (Replace file bytes) legal =
    let u : PlainUpdate = PlainReplace (file_number (matrix_of (history_of h)) file) bytes in
    legal-update h u (refusal_of (history_of h) (measured u)) refl legal
legal-after h (Read user file) legal = (legal, refl)
legal-after h (ListNames file) legal = (legal, refl)
legal-after h AskEpoch legal = (legal, refl)

-- after all of some commands
pub legal-after_all : (h : PlainHistory) (commands : List Command) → IsLegal (history_of h) → IsLegalLike h (after_all h commands)
legal-after_all h [] legal = (legal, refl)
legal-after_all h (command ∷ commands) legal =
    let next = legal-after h command legal in
    let rest = legal-after_all (after h command) commands next.0 in
    (rest.0, rest.1 ∙ next.1)
