-- What follows the line of a body, once its bytes were gathered.
use Rattle.std.proofs.Common.{◌≡◌, ◌≢◌, ℕ, suc, ◌+◌, ◌<◌, ◌≤◌, List, [], ◌∷◌, ◌++◌, length, ap, length-append, arith, Option, Some, None, min}
use Rattle.std.specs.Prelude.{IfSome}
use Rattle.ov_io.specs.Calls.{TakesPieces}
use Rattle.ov_io.specs.Tells.{SourceTells}
use Rattle.ov_script.specs.Feed.{Fed, Uses, text_of}
use Rattle.ov_script.specs.Finding.{TakesBelow, IsBadBody, no_lf}
use Rattle.ov_script.proofs.Needing.{below_behind}
use Rattle.ov_script.proofs.Using.{text_used, fact_behind}

module _ {S : Type 0} (tells : SourceTells S) (room size : ℕ) (a b : Fed S) (body : List ℕ) (used : Uses tells a b body) (count : length body ≡ size) (within : size ≤ room) where
  -- more behind the body, where no more may be read
  past : room ≤ size → IfSome (text_of tells b) (λ t. 0 < length t) → IfSome (text_of tells a) (λ text. (room < length text) × (room ≤ size))
  past full some = fact_behind (λ t. (room < length t) × (room ≤ size)) (λ t. 0 < length t) (text_of tells a) (text_of tells b) body longer (text_used tells a b body used) some where
    longer : (rest : List ℕ) → 0 < length rest → (room < length (body ++ rest)) × (room ≤ size)
    longer rest some = (let n : length (body ++ rest) ≡ length body + length rest = length-append body rest in omega arith, full)

  -- an LF behind the body, where no more may be read
  pub lf_past : (c : Fed S) → room ≤ size → Uses tells b c (10 ∷ []) → IfSome (text_of tells a) (λ text. (room < length text) × (room ≤ size))
  lf_past c full lf =
      past full (fact_behind (λ t. 0 < length t) (λ t. Unit {0}) (text_of tells b) (text_of tells c) (10 ∷ []) (λ rest u. omega arith) (text_used tells b c (10 ∷ []) lf) (always (text_of tells c))) where
        always : (x : Option (List ℕ)) → IfSome x (λ t. Unit {0})
        always None = tt
        always (Some x) = tt

  -- another byte behind the body, where no more may be read
  pub other_past : room ≤ size → IfSome (text_of tells b) (λ text. (c : ℕ) × (rest : List ℕ) × (c ≢ 10) × (text ≡ c ∷ rest)) → IfSome (text_of tells a) (λ text. (room < length text) × (room ≤ size))
  other_past full other = past full (not_empty (text_of tells b) other) where
    not_empty : (x : Option (List ℕ)) → IfSome x (λ text. (c : ℕ) × (rest : List ℕ) × (c ≢ 10) × (text ≡ c ∷ rest)) → IfSome x (λ t. 0 < length t)
    not_empty None p = tt
    not_empty (Some x) (c, rest, differs, e) = let n : length x ≡ suc (length rest) = ap length e in omega arith

  -- another byte in the place of the LF behind the body
  pub other_behind : size < room → IfSome (text_of tells b) (λ text. (c : ℕ) × (rest : List ℕ) × (c ≢ 10) × (text ≡ c ∷ rest)) → IfSome (text_of tells a) (IsBadBody room size)
  other_behind fits other = fact_behind (IsBadBody room size) (λ text. (c : ℕ) × (rest : List ℕ) × (c ≢ 10) × (text ≡ c ∷ rest)) (text_of tells a) (text_of tells b) body
      (λ text (c, rest, differs, e). no_lf body rest c count fits differs (ap (λ t. body ++ t) e)) (text_used tells a b body used) other

  -- what was taken for the LF behind the body
  pub taken_for_lf : (E F : Type 0) (new : S) (gathered : ℕ) → gathered ≡ min (room + 1) size
      → TakesPieces tells (λ seen. length (a.pending ++ seen) < gathered) a.source b.source used.more
      → TakesBelow tells 1 b.pending E F b.source new → TakesBelow tells (min room size + 1) a.pending E F a.source new
  taken_for_lf E F new gathered e before lf =
      below_behind tells gathered 1 (min room size + 1) E F a b body new (omega arith) (omega arith) (used, before) lf
