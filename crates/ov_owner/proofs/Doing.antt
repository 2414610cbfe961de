-- What an owner does for each command, at a history that is right.
use Rattle.std.proofs.Common.{◌≡◌, ℕ, ◌∙◌, List, length, Some, None, Ok, Err, refl, sym, ap, subst}
use Rattle.ov_base.specs.declared.refusal.Refusal.{Refusal}
use Rattle.ov_record.specs.Updates.{SealedUpdate}
use Rattle.ov_script.specs.declared.command.Command.{Command}
use Rattle.ov_script.specs.declared.command.Command.TheVariants as commands
use Rattle.ov_model.specs.Step.{step, update}
use Rattle.ov_history.specs.Asking.{file_named, user_named}
use Rattle.ov_history.specs.Catalogue.{Catalogue}
use Rattle.ov_history.specs.History.{History, Matrix, matrix_of}
use Rattle.ov_history.specs.Lists.{file_number, set_named, user_number}
use Rattle.ov_history.specs.Masters.{Masters}
use Rattle.ov_history.specs.Plain.{PlainCreate, PlainEnrol, PlainGrant, PlainHistory, PlainRemove, PlainReplace, PlainRevoke, PlainUpdate, history_of, measured}
use Rattle.ov_history.specs.Sealed.{catalogue_of}
use Rattle.ov_history.specs.Sealing.{sealed}
use Rattle.ov_history.specs.Sent.{SealedUpdate as NumberedUpdate, numbered}
use Rattle.ov_wire.specs.declared.answer.Known.{Known}
use Rattle.ov_wire.specs.declared.answer.Plan.{Plan}
use Rattle.ov_wire.specs.declared.answer.Answer.{Answer}
use Rattle.ov_wire.specs.declared.answer.Answer.TheVariants as answers
use Rattle.ov_wire.specs.declared.request.Question.{Question}
use Rattle.ov_wire.specs.declared.request.Question.TheVariants as questions
use Rattle.ov_protocol.specs.Asking.{AnswersAsk, AnswersCover, AnswersReplan, known_at, numbers_for, refusal_to}
use Rattle.ov_owner.specs.Errands.{Errand, created, creating, enrolling, granting, known_of, removing, replaced, replacing, revoking, sealed_by}
use Rattle.ov_owner.specs.Steps.{IsErrandFor}
use Rattle.ov_owner.specs.declared.fault.OwnerFault.TheVariants as faults
use Rattle.ov_owner.proofs.Telling.{Makes, created_as, granted_as, known_by, known_refused, names_after, plan_by, plan_refused, refused_as, replaced_as, sealed_as}

-- ---- the six errands

abbrev pub enrol_named : List ℕ → Matrix → PlainUpdate
enrol_named user m = PlainEnrol user

abbrev pub create_named : List ℕ → List (List ℕ) → List ℕ → Matrix → PlainUpdate
create_named file names bytes m = PlainCreate file (set_named m.users names) bytes

abbrev pub grant_named : List ℕ → List ℕ → Matrix → PlainUpdate
grant_named user file m = PlainGrant (user_number m user) (file_number m file)

abbrev pub revoke_named : List ℕ → List ℕ → Matrix → PlainUpdate
revoke_named user file m = PlainRevoke (user_number m user) (file_number m file)

abbrev pub remove_named : List ℕ → Matrix → PlainUpdate
remove_named file m = PlainRemove (file_number m file)

abbrev pub replace_named : List ℕ → List ℕ → Matrix → PlainUpdate
replace_named file bytes m = PlainReplace (file_number m file) bytes

abbrev pub named_at : (Matrix → PlainUpdate) → PlainHistory → PlainUpdate
named_at named p = named (matrix_of (history_of p))

asked_known : (c : Catalogue) (question : Question) (a : Answer) (seal : Known → ℕ × SealedUpdate)
    (told : ℕ × SealedUpdate)
    → AnswersAsk c question a → sealed_by seal (known_of a) ≡ Ok told
    → (told ≡ seal (known_at c (numbers_for c question))) × (refusal_to c question ≡ None)
asked_known c question a seal told answered is =
    let (known, as_known, same) = known_by a seal told is in
    let so : AnswersAsk c question (answers.Known known) =
    subst (AnswersAsk c question) as_known answered in
    (same ∙ ap seal so.1, so.0)

asked_refused : (c : Catalogue) (question : Question) (a : Answer) (seal : Known → ℕ × SealedUpdate)
    (why : Refusal)
    → AnswersAsk c question a → sealed_by seal (known_of a) ≡ Err (faults.Refused why)
    → (a ≡ answers.Refused why) × (refusal_to c question ≡ Some why)
asked_refused c question a seal why answered is =
    let same = known_refused a seal why is in
    (same, subst (AnswersAsk c question) same answered)

abbrev first : ℕ × SealedUpdate → ℕ
first told = told.0

-- the update that is told, in a store whose files have these names by number
abbrev second : List (List ℕ) → ℕ × SealedUpdate → NumberedUpdate
second names told = numbered names told.1

pub enrolling_makes : (k : Masters) (user : List ℕ) → Makes k (enrolling user) (named_at (enrol_named user))
enrolling_makes k user = record {
  told = λ base_check p a epoch u legal answered is.
      let (same, none) = asked_known (catalogue_of k.surface (sealed k p)) (questions.Enrol user) a _ (epoch, u) answered is in (
        ap first same,
        ap (second (names_after p)) same,
        sym (refused_as k p legal (λ m. measured (PlainEnrol user))) ∙ none,
      );
  refused = λ base_check p a why legal answered is.
      let (same, so) = asked_refused (catalogue_of k.surface (sealed k p)) (questions.Enrol user) a _ why answered is in
      (same, sym (refused_as k p legal (λ m. measured (PlainEnrol user))) ∙ so);
  no_disk = refl;
  no_update = refl;
}

pub granting_makes : (k : Masters) (user file : List ℕ)
    → Makes k (granting k.base user file) (named_at (grant_named user file))
granting_makes k user file = record {
  told = λ base_check p a epoch u legal answered is.
      let c = catalogue_of k.surface (sealed k p) in
      let (same, none) = asked_known c (questions.Grant user file) a _ (epoch, u) answered is in (
        ap first same,
        ap (second (names_after p)) same
            ∙ granted_as k p legal (names_after p) (user_named c user) (file_named c file)
            ∙ sealed_as k p legal (grant_named user file),
        sym (refused_as k p legal (λ m. measured (grant_named user file m))) ∙ none,
      );
  refused = λ base_check p a why legal answered is.
      let c = catalogue_of k.surface (sealed k p) in
      let (same, so) = asked_refused c (questions.Grant user file) a _ why answered is in
      (same, sym (refused_as k p legal (λ m. measured (grant_named user file m))) ∙ so);
  no_disk = refl;
  no_update = refl;
}

pub revoking_makes : (k : Masters) (user file : List ℕ)
    → Makes k (revoking user file) (named_at (revoke_named user file))
revoking_makes k user file = record {
  told = λ base_check p a epoch u legal answered is.
      let c = catalogue_of k.surface (sealed k p) in
      let (same, none) = asked_known c (questions.Revoke user file) a _ (epoch, u) answered is in (
        ap first same,
        ap (second (names_after p)) same ∙ sealed_as k p legal (revoke_named user file),
        sym (refused_as k p legal (λ m. measured (revoke_named user file m))) ∙ none,
      );
  refused = λ base_check p a why legal answered is.
      let c = catalogue_of k.surface (sealed k p) in
      let (same, so) = asked_refused c (questions.Revoke user file) a _ why answered is in
      (same, sym (refused_as k p legal (λ m. measured (revoke_named user file m))) ∙ so);
  no_disk = refl;
  no_update = refl;
}

pub removing_makes : (k : Masters) (file : List ℕ) → Makes k (removing file) (named_at (remove_named file))
removing_makes k file = record {
  told = λ base_check p a epoch u legal answered is.
      let c = catalogue_of k.surface (sealed k p) in
      let (same, none) = asked_known c (questions.Remove file) a _ (epoch, u) answered is in (
        ap first same,
        ap (second (names_after p)) same ∙ sealed_as k p legal (remove_named file),
        sym (refused_as k p legal (λ m. measured (remove_named file m))) ∙ none,
      );
  refused = λ base_check p a why legal answered is.
      let c = catalogue_of k.surface (sealed k p) in
      let (same, so) = asked_refused c (questions.Remove file) a _ why answered is in
      (same, sym (refused_as k p legal (λ m. measured (remove_named file m))) ∙ so);
  no_disk = refl;
  no_update = refl;
}

pub creating_makes : (k : Masters) (file : List ℕ) (names : List (List ℕ)) (bytes : List ℕ)
    → Makes k (creating k.base file names bytes) (named_at (create_named file names bytes))
creating_makes k file names bytes = record {
  told = λ base_check p a epoch u legal answered is.
      let c = catalogue_of k.surface (sealed k p) in
      let list = set_named c.users names in
      let (plan, as_plan, same) = plan_by a _ (epoch, u) is in
      let so : AnswersCover c file (length bytes) list (answers.Plan plan) =
      subst (AnswersCover c file (length bytes) list) as_plan answered in (
        ap first same ∙ ap (λ (x : Plan). x.epoch) so.1,
        ap (second (names_after p)) same
            ∙ ap (λ (x : Plan). numbered (names_after p) (created k.base file bytes x)) so.1
            ∙ created_as k p legal (names_after p) file list bytes
            ∙ sealed_as k p legal (create_named file names bytes),
        sym (refused_as k p legal (λ m. measured (create_named file names bytes m))) ∙ so.0,
      );
  refused = λ base_check p a why legal answered is.
      let c = catalogue_of k.surface (sealed k p) in
      let list = set_named c.users names in
      let same = plan_refused a _ why is in
      let so : AnswersCover c file (length bytes) list (answers.Refused why) =
      subst (AnswersCover c file (length bytes) list) same answered in
      (same, sym (refused_as k p legal (λ m. measured (create_named file names bytes m))) ∙ so);
  no_disk = refl;
  no_update = refl;
}

pub replacing_makes : (k : Masters) (file bytes : List ℕ)
    → Makes k (replacing k.base file bytes) (named_at (replace_named file bytes))
replacing_makes k file bytes = record {
  told = λ base_check p a epoch u legal answered is.
      let c = catalogue_of k.surface (sealed k p) in
      let n = file_named c file in
      let (plan, as_plan, same) = plan_by a _ (epoch, u) is in
      let so : AnswersReplan c n (length bytes) (answers.Plan plan) =
      subst (AnswersReplan c n (length bytes)) as_plan answered in (
        ap first same ∙ ap (λ (x : Plan). x.epoch) so.1,
        ap (second (names_after p)) same
            ∙ ap (λ (x : Plan). numbered (names_after p) (replaced k.base file bytes x)) so.1
            ∙ replaced_as k p legal file bytes
            ∙ sealed_as k p legal (replace_named file bytes),
        sym (refused_as k p legal (λ m. measured (replace_named file bytes m))) ∙ so.0,
      );
  refused = λ base_check p a why legal answered is.
      let c = catalogue_of k.surface (sealed k p) in
      let n = file_named c file in
      let same = plan_refused a _ why is in
      let so : AnswersReplan c n (length bytes) (answers.Refused why) =
      subst (AnswersReplan c n (length bytes)) same answered in
      (same, sym (refused_as k p legal (λ m. measured (replace_named file bytes m))) ∙ so);
  no_disk = refl;
  no_update = refl;
}

-- ---- by the command

-- an update that a matrix names is named alike by plain histories of one history
pub named_alike : (named : Matrix → PlainUpdate) (p q : PlainHistory) → history_of p ≡ history_of q
    → named_at named p ≡ named_at named q
named_alike named p q same = ap (λ (h : History). named (matrix_of h)) same

-- what an owner does for a command: the plain updates that it makes, which are the machine's
pub record Does (k : Masters) (command : Command) (e : Errand) : Type 0 where
  pub plain : PlainHistory → PlainUpdate
  pub makes : Makes k e plain
  pub as_update : (p : PlainHistory) → step p command ≡ update p (plain p)
  pub by_history : (p q : PlainHistory) → history_of p ≡ history_of q → plain p ≡ plain q

abbrev pub enrol_does : (k : Masters) (user : List ℕ) → Does k (commands.Enrol user) (enrolling user)
enrol_does k user = record {
  plain = named_at (enrol_named user);
  makes = enrolling_makes k user;
  as_update = λ p. refl;
  by_history = named_alike (enrol_named user);
}

abbrev pub create_does : (k : Masters) (file : List ℕ) (names : List (List ℕ)) (bytes : List ℕ)
    → Does k (commands.Create file names bytes) (creating k.base file names bytes)
create_does k file names bytes = record {
  plain = named_at (create_named file names bytes);
  makes = creating_makes k file names bytes;
  as_update = λ p. refl;
  by_history = named_alike (create_named file names bytes);
}

abbrev pub grant_does : (k : Masters) (user file : List ℕ)
    → Does k (commands.Grant user file) (granting k.base user file)
grant_does k user file = record {
  plain = named_at (grant_named user file);
  makes = granting_makes k user file;
  as_update = λ p. refl;
  by_history = named_alike (grant_named user file);
}

abbrev pub revoke_does : (k : Masters) (user file : List ℕ)
    → Does k (commands.Revoke user file) (revoking user file)
revoke_does k user file = record {
  plain = named_at (revoke_named user file);
  makes = revoking_makes k user file;
  as_update = λ p. refl;
  by_history = named_alike (revoke_named user file);
}

abbrev pub remove_does : (k : Masters) (file : List ℕ) → Does k (commands.Remove file) (removing file)
remove_does k file = record {
  plain = named_at (remove_named file);
  makes = removing_makes k file;
  as_update = λ p. refl;
  by_history = named_alike (remove_named file);
}

abbrev pub replace_does : (k : Masters) (file bytes : List ℕ)
    → Does k (commands.Replace file bytes) (replacing k.base file bytes)
replace_does k file bytes = record {
  plain = named_at (replace_named file bytes);
  makes = replacing_makes k file bytes;
  as_update = λ p. refl;
  by_history = named_alike (replace_named file bytes);
}

pub does : (k : Masters) (command : Command) (e : Errand) → IsErrandFor k.base command e
    → Does k command e
does k (commands.Enrol user) e is = subst (Does k (commands.Enrol user)) (sym is) (enrol_does k user)
does k (commands.Create file names bytes) e is =
    subst (Does k (commands.Create file names bytes)) (sym is) (create_does k file names bytes)
does k (commands.Grant user file) e is =
    subst (Does k (commands.Grant user file)) (sym is) (grant_does k user file)
does k (commands.Revoke user file) e is =
    subst (Does k (commands.Revoke user file)) (sym is) (revoke_does k user file)
does k (commands.Remove file) e is = subst (Does k (commands.Remove file)) (sym is) (remove_does k file)
does k (commands.Replace file bytes) e is =
    subst (Does k (commands.Replace file bytes)) (sym is) (replace_does k file bytes)
does k command e is = absurd is
