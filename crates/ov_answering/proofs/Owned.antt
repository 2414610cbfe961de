-- All updates of a history that is right are its owner's, so there is no first one that isn't.
use Rattle.std.proofs.Common.{ℕ, Bool, List, [], ◌∷◌, ◌++◌, length, Option, subst}
use Rattle.ov_history.specs.Briefs.{brief, outer}
use Rattle.ov_history.specs.Fading.{is_gone_from}
use Rattle.ov_history.specs.FadingLaws.{IsRight}
use Rattle.ov_history.specs.History.{History, start_of, with_update}
use Rattle.ov_history.specs.Layers.{layers_of}
use Rattle.ov_history.specs.Masters.{Masters}
use Rattle.ov_history.specs.Plain.{PlainHistory}
use Rattle.ov_history.specs.Sealed.{SealedHistory, outer_all, outer_of}
use Rattle.ov_history.specs.Sent.{SealedUpdate}
use Rattle.ov_history.proofs.Pushing.{with_updates, with_updates-all}
use Rattle.ov_store.specs.Owners.{AllAreOwned, HasFalseUpdate, IsOwners, with_first}
use Rattle.ov_store.proofs.Owned.{right_is_owned}

module _ (k : Masters) (is_out : ℕ → Bool) where
  -- behind this history the update is its owner's
  abbrev IsOwned : SealedUpdate → History → Type 0
  IsOwned u h = IsOwners k (layers_of h) (is_out (length (layers_of h).files)) u

  -- behind a front of updates that are all their owner's, the next one is too
  next_is_owned : (h : History) (front : List SealedUpdate) (next : SealedUpdate)
      (rest : List SealedUpdate) → AllAreOwned k is_out h (front ++ next ∷ rest)
      → IsOwned next (with_updates h (outer_all front))
  next_is_owned h [] next rest all = all.0
  next_is_owned h (u ∷ front) next rest all =
      next_is_owned (with_update h (outer (brief u))) front next rest all.1

pub right_never_false : (k : Masters) (step : Option ℕ) (p : PlainHistory) (g : SealedHistory)
    (place : ℕ) → IsRight k p g → HasFalseUpdate k step g place → ⊥
right_never_false k step p g place right f =
    let is_out : ℕ → Bool = is_gone_from g in
    let start : History = start_of (outer_of g) in
    let next = next_is_owned k is_out start f.front f.next f.rest
    (subst (AllAreOwned k is_out start) f.split (right_is_owned k p g right)) in
    f.wrong
    (subst (λ (h : History). IsOwned k is_out f.next h)
    (with_updates-all (outer_of (with_first g f.front))) next)
