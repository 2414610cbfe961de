-- Parts of a buffer.
use Rattle.std.proofs.Common.{◌≡◌, ℕ, ◌+◌, ◌-◌, ◌≤◌, List, ◌++◌, length, take, drop, ◌∙◌, ap, arith}
use Rattle.std.proofs.Math.Seq.{take-add}
use Rattle.std.proofs.lemmas.List.{length-take-le, length-drop}

-- behind the first bytes, which are p, are n more
pub front_grown : (old new p : List ℕ) (end n : ℕ) → take end old ≡ p → take end new ≡ take end old → end + n ≤ length new
    → (take (end + n) new ≡ p ++ take n (drop end new)) × (length (take n (drop end new)) ≡ n)
front_grown old new p end n was kept within =
    let behind : length (drop end new) ≡ length new - end = length-drop end new in (
      take-add end n new ∙ ap (λ l. l ++ take n (drop end new)) (kept ∙ was),
      length-take-le n (drop end new) (omega arith),
    )
