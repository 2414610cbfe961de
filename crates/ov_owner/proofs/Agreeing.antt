-- A server of a history that is right answers as one of the form in which its owner seals it, and
-- names its files as the plain history does.
use Rattle.std.proofs.Common.{◌≡◌, ◌∙◌, ℕ, List, ap, subst, sym}
use Rattle.std.specs.Prelude.{Some}
use Rattle.ov_history.specs.Catalogue.{Catalogue}
use Rattle.ov_history.specs.History.{History, matrix_of}
use Rattle.ov_history.specs.Lists.{file_names}
use Rattle.ov_history.specs.Masters.{Masters}
use Rattle.ov_history.specs.Plain.{PlainHistory, history_of}
use Rattle.ov_history.specs.Refusals.{IsLegal}
use Rattle.ov_history.specs.Sealed.{SealedHistory, file_names_of, outer_of}
use Rattle.ov_history.specs.Sealing.{IsSealedAs, sealed}
use Rattle.ov_history.proofs.Agreeing.{right_keeps, right_shows}
use Rattle.ov_history.proofs.Fading.{outer_faded_of}
use Rattle.ov_history.proofs.Sealing.{sealing_is_outer}
use Rattle.ov_wire.specs.declared.answer.Answer.{Answer}
use Rattle.ov_wire.specs.declared.request.Request.{Request}
use Rattle.ov_protocol.specs.Answers.{Answers}
use Rattle.ov_protocol.specs.Serving.{Serving, served}
use Rattle.ov_owner.proofs.Telling.{names_after, under}

-- what a server answers by that has this catalogue and these stored bytes
abbrev serving_of : List ℕ → List ℕ → Catalogue → List (List ℕ) → Serving
serving_of surface base_check c stored = record {
  catalogue = c;
  stored = Some stored;
  surface = surface;
  base_check = base_check;
}

-- a history that is right has the names of the files of the plain one
pub right_names : (k : Masters) (p : PlainHistory) (g : SealedHistory) → IsSealedAs k p g
    → file_names_of g ≡ names_after p
right_names k p g right =
    ap (λ (h : History). file_names (matrix_of h).files)
    (sym (outer_faded_of g) ∙ ap (λ (it : SealedHistory). outer_of it) right
    ∙ outer_faded_of (sealed k p) ∙ sealing_is_outer k p)

module _ (k : Masters) (base_check : List ℕ) (p : PlainHistory) (g : SealedHistory)
    (legal : IsLegal (history_of p)) (right : IsSealedAs k p g) where
  pub served_alike : served (under k.surface base_check g)
      ≡ served (under k.surface base_check (sealed k p))
  served_alike =
      λ i. serving_of k.surface base_check (right_shows k p g legal right i)
      (right_keeps k p g legal right i)

  pub answers_alike : (request : Request) (a : Answer)
      → Answers (served (under k.surface base_check g)) request a
      → Answers (served (under k.surface base_check (sealed k p))) request a
  answers_alike request a answered =
      subst (λ (s : Serving). Answers s request a) served_alike answered
