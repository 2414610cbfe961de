-- Histories whose updates agree one by one, but for the tags and the bytes of files that are gone.
use Rattle.std.specs.Prelude.{◌≡◌, ℕ, ◌+◌, ◌-◌, Bool, List, [], ◌∷◌, length, take}
use Rattle.ov_history.specs.Briefs.{brief}
use Rattle.ov_history.specs.Fading.{AgreeButGone, faded_if, is_gone_from, made_by}
use Rattle.ov_history.specs.History.{epoch_of}
use Rattle.ov_history.specs.Masters.{Masters}
use Rattle.ov_history.specs.Plain.{PlainHistory, history_of}
use Rattle.ov_history.specs.Refusals.{IsLegal}
use Rattle.ov_history.specs.Sealed.{SealedHistory, outer_of}
use Rattle.ov_history.specs.Sealing.{IsSealedAs}
use Rattle.ov_history.specs.Sent.{SealedUpdate}
use Rattle.ov_thinning.specs.SealedThin.{thinned_plain, thinned_sealed}
use Rattle.ov_thinning.specs.Thin.{AreThinned, items_at}

-- The second update has the tokens and the tag of the first; its bytes too, unless the test says that
-- its file is gone.
abbrev pub Agree : Bool → SealedUpdate → SealedUpdate → Type 0
Agree gone u v = (brief v ≡ brief u) × (faded_if gone v ≡ faded_if gone u)

-- these updates agree one by one, of which the next file has this number
abbrev pub AllAgree : (ℕ → Bool) → ℕ → List SealedUpdate → List SealedUpdate → Type 0
AllAgree is_gone number [] [] = Unit {0}
AllAgree is_gone number [] (v ∷ vs) = ⊥
AllAgree is_gone number (u ∷ us) [] = ⊥
AllAgree is_gone number (u ∷ us) (v ∷ vs) =
    Agree (is_gone number) u v × AllAgree is_gone (number + made_by u) us vs

-- histories that begin alike and whose updates agree one by one are the same but for the tags and the
-- bytes of files that are gone
abbrev pub AgreeingOneByOne : Type 0
AgreeingOneByOne =
    (g h : SealedHistory) → h.mode ≡ g.mode → h.first ≡ g.first
    → AllAgree (is_gone_from g) 0 g.updates h.updates → AgreeButGone h g

-- ---- copies of a shorter history

-- The history is the shorter one, update by update, but for the bytes of files that are gone at its
-- end.
pub record IsCopyOf (g : SealedHistory) (kept : List ℕ) (h : SealedHistory) : Type 0 where
  pub mode_is : h.mode ≡ g.mode
  pub first_is : h.first ≡ epoch_of (outer_of g) - length kept
  pub agree : let short = thinned_sealed g kept in
      AllAgree (is_gone_from short) 0 short.updates h.updates

-- it differs from the shorter history in the bytes of files that are gone alone
abbrev pub CopiesAgree : Type 0
CopiesAgree =
    (g h : SealedHistory) (kept : List ℕ) → IsCopyOf g kept h → AgreeButGone h (thinned_sealed g kept)

-- where the longer history is right under the masters for a history with bytes, a copy is right under
-- them for that history without what is left out
abbrev pub CopiesAreRight : Type 0
CopiesAreRight =
    (k : Masters) (p : PlainHistory) (g h : SealedHistory) (kept : List ℕ)
    → IsLegal (history_of p) → AreThinned (history_of p) kept → IsSealedAs k p g → IsCopyOf g kept h
    → IsSealedAs k (thinned_plain p kept) h

-- ---- inner: the first updates that are kept

-- the history is a copy of the first so many updates that are kept
pub record IsCopyOfFirst (g : SealedHistory) (kept : List ℕ) (n : ℕ) (h : SealedHistory) : Type 0
  where
    pub mode_is : h.mode ≡ g.mode
    pub first_is : h.first ≡ epoch_of (outer_of g) - length kept
    pub agree : AllAgree (is_gone_from g) 0 (items_at g.updates (take n kept)) h.updates
