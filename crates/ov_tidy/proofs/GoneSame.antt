-- The files that are gone after a shorter history are those that are gone after the longer one.
use Rattle.std.proofs.Common.{◌≡◌, ℕ, List, ◌∙◌, ap}
use Rattle.std.specs.Prelude.{not}
use Rattle.ov_history.specs.Fading.{is_gone_from}
use Rattle.ov_history.specs.History.{History, matrix_of}
use Rattle.ov_history.specs.Lists.{is_file}
use Rattle.ov_history.specs.Sealed.{IsSealed, SealedHistory, outer_of}
use Rattle.ov_thinning.specs.SealedThin.{thinned_sealed}
use Rattle.ov_thinning.specs.Thin.{AreThinned}
use Rattle.ov_thinning.proofs.SealedLaws.{sealed_legal, thinned_is_outer}
use Rattle.ov_thinning.proofs.ThinLaws.{thinned_has_matrix}

pub gone_same : (g : SealedHistory) (kept : List ℕ) → IsSealed g → AreThinned (outer_of g) kept
    → is_gone_from (thinned_sealed g kept) ≡ is_gone_from g
gone_same g kept fit thin =
    let matrix : matrix_of (outer_of (thinned_sealed g kept)) ≡ matrix_of (outer_of g) =
    ap (λ (h : History). matrix_of h) (thinned_is_outer g kept)
    ∙ thinned_has_matrix (outer_of g) kept (sealed_legal g fit) thin in
    λ j file. not (is_file (matrix j) file)
