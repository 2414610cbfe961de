-- The reader that is made of an answer is that of the user at the history.
use Rattle.std.proofs.Common.{◌≡◌, ◌∙◌, ℕ, ◌<◌, Bool, true, false, List, [], ◌∷◌, Some, None, Ok, refl, sym, ap, subst, inl, inr}
use Rattle.std.specs.Prelude.{not}
use Rattle.ov_base.specs.declared.limits.TheConstants.{MAX_LAYER_NODES}
use Rattle.ov_base.specs.declared.refusal.Refusal.{Refusal}
use Rattle.ov_base.specs.declared.refusal.Refusal.TheVariants.{NoUser}
use Rattle.ov_record.specs.Updates.{SealedUpdate}
use Rattle.ov_history.specs.Asking.{user_named}
use Rattle.ov_history.specs.Catalogue.{Catalogue, matrix_shown}
use Rattle.ov_history.specs.History.{Matrix, matrix_of}
use Rattle.ov_history.specs.Layers.{layers_of, root_of}
use Rattle.ov_history.specs.Lists.{is_user, user_number}
use Rattle.ov_history.specs.Masters.{Masters}
use Rattle.ov_history.specs.Plain.{PlainHistory, history_of}
use Rattle.ov_history.specs.Refusals.{IsLegal, first_of_tests}
use Rattle.ov_history.specs.Sealed.{catalogue_of}
use Rattle.ov_history.specs.Sealing.{IsSealedAs, sealed}
use Rattle.ov_history.proofs.Keeping.{kept_shows}
use Rattle.ov_history.proofs.Agreeing.{right_shows}
use Rattle.ov_wire.specs.declared.answer.Answer.{Answer}
use Rattle.ov_wire.specs.declared.answer.Answer.TheVariants as answers
use Rattle.ov_wire.specs.declared.answer.Known.{Known}
use Rattle.ov_wire.specs.declared.request.Question.TheVariants as questions
use Rattle.ov_wire.specs.declared.request.Request.TheVariants as requests
use Rattle.ov_wire.specs.AnswersTo.{IsAnswer}
use Rattle.ov_protocol.specs.Serving.{Service, later}
use Rattle.ov_protocol.specs.Asking.{AnswersAsk}
use Rattle.ov_peer.specs.Exchanges.{Tells}
use Rattle.ov_owner.specs.Clients.{HasUser, IsReaderAt, IsReaderOf, reader_in, reader_of}
use Rattle.ov_owner.specs.Errands.{known_of}
use Rattle.ov_owner.proofs.Questioning.{none_made}

-- ---- the test for a user

no_refusal : (b : Bool) → first_of_tests ((NoUser, not b) ∷ []) ≡ None → b ≡ true
no_refusal true e = refl
no_refusal false e = absurd cc

a_refusal : (b : Bool) (why : Refusal) → first_of_tests ((NoUser, not b) ∷ []) ≡ Some why
    → (why ≡ NoUser) × (b ≡ false)
a_refusal true why e = absurd cc
a_refusal false why e = (cc, refl)

module _ (k : Masters) (v : Service) (others : List SealedUpdate) (p : PlainHistory)
    (same : v.surface ≡ k.surface) (legal : IsLegal (history_of p))
    (right : IsSealedAs k p (later v others).history) where
  abbrev c : Catalogue
  c = catalogue_of v.surface (later v others).history

  abbrev s : Catalogue
  s = catalogue_of k.surface (sealed k p)

  catalogue_is : c ≡ s
  catalogue_is =
      ap (λ (master : List ℕ). catalogue_of master (later v others).history) same
      ∙ right_shows k p (later v others).history legal right

  matrix_is : matrix_shown c ≡ matrix_of (history_of p)
  matrix_is = ap matrix_shown catalogue_is ∙ (kept_shows k p s (legal, refl)).matrix

  user_is : (user : List ℕ) → user_named c user ≡ user_number (matrix_of (history_of p)) user
  user_is user = ap (λ (m : Matrix). user_number m user) matrix_is

  -- the roots of a user
  base_is : (user : List ℕ) → root_of c.base.sets (user_named c user)
      ≡ root_of (layers_of (history_of p)).base (user_number (matrix_of (history_of p)) user)
  base_is user =
      (λ i. root_of (catalogue_is i).base.sets (user_is user i))
      ∙ ap (λ ls. root_of ls.base (user_number (matrix_of (history_of p)) user))
      (kept_shows k p s (legal, refl)).layers

  surface_is : (user : List ℕ) → root_of c.surface.sets (user_named c user)
      ≡ root_of (layers_of (history_of p)).surface (user_number (matrix_of (history_of p)) user)
  surface_is user =
      (λ i. root_of (catalogue_is i).surface.sets (user_is user i))
      ∙ ap (λ ls. root_of ls.surface (user_number (matrix_of (history_of p)) user))
      (kept_shows k p s (legal, refl)).layers

  pub reader_there : (user : List ℕ) (known : Known)
      → AnswersAsk c (questions.Key user) (answers.Known known)
      → IsReaderAt k p user (reader_of k user known)
  reader_there user known (none, is) =
      let base : known.base_root ≡ root_of c.base.sets (user_named c user) =
      ap (λ (x : Known). x.base_root) is in
      let surface : known.surface_root ≡ root_of c.surface.sets (user_named c user) =
      ap (λ (x : Known). x.surface_root) is in record {
        name = refl;
        enrolled = (λ i. is_user (sym matrix_is i) (sym (user_is user) i))
            ∙ no_refusal (is_user (matrix_shown c) (user_named c user)) none;
        roots = record { base = base ∙ base_is user; surface = surface ∙ surface_is user };
        keys = record { base = refl; surface = refl };
      }

  pub no_reader_there : (user : List ℕ) (why : Refusal)
      → AnswersAsk c (questions.Key user) (answers.Refused why)
      → (why ≡ NoUser) × (HasUser p user → ⊥)
  no_reader_there user why is =
      let test = a_refusal (is_user (matrix_shown c) (user_named c user)) why is in (
        test.0,
        λ has. let both : true ≡ false =
            sym has ∙ (λ i. is_user (sym matrix_is i) (sym (user_is user) i)) ∙ test.1 in cc both,
      )

-- ---- what a told peer's answer makes

pub reader_told : (k : Masters) (Then : Service → Type 0) (v : Service) (user : List ℕ) (a : Answer)
    → Tells v (requests.Ask (questions.Key user)) a Then → IsReaderOf k v Then user (reader_in k user a)
reader_told k Then v user (answers.Known known) (others, made, inl (is, makes), then) = (
  others,
  none_made Then v others made makes then,
  λ p same legal right. reader_there k v others p same legal right user known is,
)
reader_told k Then v user (answers.Known known) (others, made, inr (disk, may, needs), then) = absurd (cc disk)
reader_told k Then v user (answers.Refused why) (others, made, inl (is, makes), then) = (
  others,
  none_made Then v others made makes then,
  λ p same legal right. no_reader_there k v others p same legal right user why is,
)
reader_told k Then v user (answers.Refused why) (others, made, inr (disk, may, needs), then) = absurd (cc disk)
reader_told k Then v user answers.NoMemory tells = tt
reader_told k Then v user a tells = tt
