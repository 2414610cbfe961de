-- Laws of one step.
use Rattle.std.proofs.Common.{◌≡◌, ℕ, ◌+◌, List, [], ◌∷◌, ◌++◌, length, refl, sym, arith, ◌∙◌, Option, Some, None}
use Rattle.ov_base.specs.declared.refusal.Refusal.{Refusal}
use Rattle.ov_script.specs.declared.command.Command.{Command}
use Rattle.ov_script.specs.declared.command.Command.TheVariants.{Enrol, Create, Grant, Revoke, Remove, Replace, Read, List as ListNames, Epoch as AskEpoch}
use Rattle.ov_script.specs.declared.reply.Reply.TheVariants.{Accepted, Bytes, List as Listed, Refused}
use Rattle.ov_history.specs.History.{Matrix, matrix_of, epoch_of}
use Rattle.ov_history.specs.Plain.{PlainUpdate, PlainEnrol, PlainCreate, PlainGrant, PlainRevoke, PlainRemove, PlainReplace, PlainHistory, history_of, measured, measured_all, with_plain}
use Rattle.ov_history.specs.Lists.{user_number, file_number, set_named}
use Rattle.ov_history.specs.Refusals.{refusal_of, read_refusal, list_refusal}
use Rattle.ov_model.specs.Step.{update_step, reply_or, reply_to, after}

-- ---- one more update

measured_all-push : (updates : List PlainUpdate) (u : PlainUpdate)
    → length (measured_all (updates ++ u ∷ [])) ≡ length (measured_all updates) + 1
measured_all-push [] u = refl
measured_all-push (first ∷ updates) u = omega (arith, measured_all-push updates u)

epoch-push : (h : PlainHistory) (u : PlainUpdate) → epoch_of (history_of (with_plain h u)) ≡ epoch_of (history_of h) + 1
epoch-push h u = omega (arith, measured_all-push h.updates u)

-- ---- what a reply says

refused : (h : PlainHistory) (u : PlainUpdate) (found : Option Refusal) (why : Refusal) → (update_step h u found).0 ≡ Refused why → (update_step h u found).1 ≡ h
refused h u None why e = cc
refused h u (Some other) why e = refl

accepted : (h : PlainHistory) (u : PlainUpdate) (found : Option Refusal) (epoch : ℕ) → (update_step h u found).0 ≡ Accepted epoch
    → (epoch ≡ epoch_of (history_of h) + 1) × (epoch_of (history_of (update_step h u found).1) ≡ epoch)
accepted h u None epoch e = let same : epoch_of (history_of h) + 1 ≡ epoch = cc in (sym same, epoch-push h u ∙ same)
accepted h u (Some other) epoch e = cc

-- a question is never answered as an update
not_bytes : (user file bytes : List ℕ) (found : Option Refusal) (epoch : ℕ) → reply_or (Bytes user file bytes) found ≡ Accepted epoch → ⊥
not_bytes user file bytes None epoch e = cc
not_bytes user file bytes (Some why) epoch e = cc

not_names : (file : List ℕ) (names : List (List ℕ)) (found : Option Refusal) (epoch : ℕ) → reply_or (Listed file names) found ≡ Accepted epoch → ⊥
not_names file names None epoch e = cc
not_names file names (Some why) epoch e = cc

pub a_refusal_changes_nothing : (h : PlainHistory) (command : Command) (why : Refusal) → reply_to h command ≡ Refused why → after h command ≡ h
a_refusal_changes_nothing h (Enrol user) why e = let u : PlainUpdate = PlainEnrol user in refused h u (refusal_of (history_of h) (measured u)) why e
a_refusal_changes_nothing h (Create file list bytes) why e =
    let u : PlainUpdate = PlainCreate file (set_named (matrix_of (history_of h)).users list) bytes in refused h u (refusal_of (history_of h) (measured u)) why e
a_refusal_changes_nothing h (Grant user file) why e =
    let u : PlainUpdate = PlainGrant (user_number (matrix_of (history_of h)) user) (file_number (matrix_of (history_of h)) file) in refused h u (refusal_of (history_of h) (measured u)) why e
a_refusal_changes_nothing h (Revoke user file) why e =
    let u : PlainUpdate = PlainRevoke (user_number (matrix_of (history_of h)) user) (file_number (matrix_of (history_of h)) file) in refused h u (refusal_of (history_of h) (measured u)) why e
a_refusal_changes_nothing h (Remove file) why e =
    let u : PlainUpdate = PlainRemove (file_number (matrix_of (history_of h)) file) in refused h u (refusal_of (history_of h) (measured u)) why e
a_refusal_changes_nothing h (Replace file bytes) why e =
    let u : PlainUpdate = PlainReplace (file_number (matrix_of (history_of h)) file) bytes in refused h u (refusal_of (history_of h) (measured u)) why e
a_refusal_changes_nothing h (Read user file) why e = refl
a_refusal_changes_nothing h (ListNames file) why e = refl
a_refusal_changes_nothing h AskEpoch why e = refl

pub an_update_raises_the_epoch : (h : PlainHistory) (command : Command) (epoch : ℕ) → reply_to h command ≡ Accepted epoch
    → (epoch ≡ epoch_of (history_of h) + 1) × (epoch_of (history_of (after h command)) ≡ epoch)
an_update_raises_the_epoch h (Enrol user) epoch e = let u : PlainUpdate = PlainEnrol user in accepted h u (refusal_of (history_of h) (measured u)) epoch e
an_update_raises_the_epoch h (Create file list bytes) epoch e =
    let u : PlainUpdate = PlainCreate file (set_named (matrix_of (history_of h)).users list) bytes in accepted h u (refusal_of (history_of h) (measured u)) epoch e
an_update_raises_the_epoch h (Grant user file) epoch e =
    let u : PlainUpdate = PlainGrant (user_number (matrix_of (history_of h)) user) (file_number (matrix_of (history_of h)) file) in accepted h u (refusal_of (history_of h) (measured u)) epoch e
an_update_raises_the_epoch h (Revoke user file) epoch e =
    let u : PlainUpdate = PlainRevoke (user_number (matrix_of (history_of h)) user) (file_number (matrix_of (history_of h)) file) in accepted h u (refusal_of (history_of h) (measured u)) epoch e
an_update_raises_the_epoch h (Remove file) epoch e =
    let u : PlainUpdate = PlainRemove (file_number (matrix_of (history_of h)) file) in accepted h u (refusal_of (history_of h) (measured u)) epoch e
an_update_raises_the_epoch h (Replace file bytes) epoch e =
    let u : PlainUpdate = PlainReplace (file_number (matrix_of (history_of h)) file) bytes in accepted h u (refusal_of (history_of h) (measured u)) epoch e
an_update_raises_the_epoch h (Read user file) epoch e =
    let m : Matrix = matrix_of (history_of h) in
    absurd (not_bytes user file _ (read_refusal m (user_number m user) (file_number m file)) epoch e)
an_update_raises_the_epoch h (ListNames file) epoch e =
    let m : Matrix = matrix_of (history_of h) in absurd (not_names file _ (list_refusal m (file_number m file)) epoch e)
an_update_raises_the_epoch h AskEpoch epoch e = cc

-- ---- the first epoch and the mode stay

first-update : (h : PlainHistory) (u : PlainUpdate) (found : Option Refusal) → (update_step h u found).1.first ≡ h.first
first-update h u None = refl
first-update h u (Some why) = refl

pub first-after : (h : PlainHistory) (command : Command) → (after h command).first ≡ h.first
first-after h (Enrol user) = let u : PlainUpdate = PlainEnrol user in first-update h u (refusal_of (history_of h) (measured u))
first-after h (Create file list bytes) = let u : PlainUpdate = PlainCreate file (set_named (matrix_of (history_of h)).users list) bytes in first-update h u (refusal_of (history_of h) (measured u))
first-after h (Grant user file) =
    let u : PlainUpdate = PlainGrant (user_number (matrix_of (history_of h)) user) (file_number (matrix_of (history_of h)) file) in first-update h u (refusal_of (history_of h) (measured u))
first-after h (Revoke user file) =
    let u : PlainUpdate = PlainRevoke (user_number (matrix_of (history_of h)) user) (file_number (matrix_of (history_of h)) file) in first-update h u (refusal_of (history_of h) (measured u))
first-after h (Remove file) =
    let u : PlainUpdate = PlainRemove (file_number (matrix_of (history_of h)) file) in first-update h u (refusal_of (history_of h) (measured u))
first-after h (Replace file bytes) =
    let u : PlainUpdate = PlainReplace (file_number (matrix_of (history_of h)) file) bytes in first-update h u (refusal_of (history_of h) (measured u))
first-after h (Read user file) = refl
first-after h (ListNames file) = refl
first-after h AskEpoch = refl
