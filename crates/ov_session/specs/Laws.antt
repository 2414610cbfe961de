-- The input of a session ends in one way.
use Rattle.std.specs.Prelude.{◌≡◌, ◌≢◌, ◌⊎◌, ℕ, List, []}
use Rattle.ov_wire.specs.Frames.{IsBadLength, IsCut, IsUnfinished}

-- what may follow the frames of an input: nothing, a part of a frame, or a length field
-- outside its limits
abbrev pub IsTail : List ℕ → Type 0
IsTail rest = (rest ≡ []) ⊎ (IsUnfinished rest ⊎ IsBadLength rest)

-- Bytes are frames with such a tail in one way at most, and no tail is of two kinds but the empty
-- one, which is a part of a frame too. Where the same bytes come, a session therefore ends in the
-- same way and at the same place, unless a fault comes or memory is refused before.
pub record InputsEndOneWay : Type 0 where
  pub one_cut : (text : List ℕ) (fs gs : List (List ℕ)) (rest other : List ℕ)
      → IsCut text fs rest → IsCut text gs other → IsTail rest → IsTail other
      → (fs ≡ gs) × (rest ≡ other)
  pub not_both : (rest : List ℕ) → IsUnfinished rest → IsBadLength rest → ⊥
  pub not_empty : (rest : List ℕ) → IsBadLength rest → rest ≢ []
