-- A copy of what is kept is right, where the longer history was.
use Rattle.std.proofs.Common.{ℕ, List}
use Rattle.ov_history.specs.Fading.{AgreeButGone}
use Rattle.ov_history.specs.Masters.{Masters}
use Rattle.ov_history.specs.Plain.{PlainHistory, history_of}
use Rattle.ov_history.specs.Refusals.{IsLegal}
use Rattle.ov_history.specs.Sealed.{SealedHistory}
use Rattle.ov_history.specs.Sealing.{IsSealedAs}
use Rattle.ov_thinning.specs.SealedThin.{thinned_plain, thinned_sealed}
use Rattle.ov_thinning.specs.Thin.{AreThinned}
use Rattle.ov_thinning.proofs.RightThin.{thinned_is_right}
use Rattle.ov_tidy.specs.Agreeing.{IsCopyOf}
use Rattle.ov_tidy.proofs.OneByOne.{agreeing_one_by_one}

pub copy_agrees : (g h : SealedHistory) (kept : List ℕ) → IsCopyOf g kept h
    → AgreeButGone h (thinned_sealed g kept)
copy_agrees g h kept copy =
    agreeing_one_by_one (thinned_sealed g kept) h copy.mode_is copy.first_is copy.agree

pub copy_is_right : (k : Masters) (p : PlainHistory) (g h : SealedHistory) (kept : List ℕ)
    → IsLegal (history_of p) → AreThinned (history_of p) kept → IsSealedAs k p g → IsCopyOf g kept h
    → IsSealedAs k (thinned_plain p kept) h
copy_is_right k p g h kept legal thin right copy =
    thinned_is_right k p g h kept legal thin right (copy_agrees g h kept copy)
