-- Inner: no public contract needs this. Gaps between extents in the order of their places.
use Rattle.std.specs.Prelude.{◌≡◌, ◌≢◌, ℕ, zero, suc, ◌+◌, ◌-◌, ◌≤◌, ◌<◌, List, [], ◌∷◌, length, take, Bool, true, false}
use Rattle.ov_blocks.specs.declared.extents.Extent.{Extent}
use Rattle.ov_blocks.specs.declared.packed.Packed.{Packed}
use Rattle.ov_blocks.specs.Extents.{IsFree, end_from}

-- how many blocks lie between block `from`, or the extent before this place, and the extent there
abbrev pub gap_at : ℕ → List Extent → ℕ → ℕ
gap_at from [] place = 0
gap_at from (e ∷ held) zero = e.first - from
gap_at from (e ∷ held) (suc place) = gap_at (e.first + e.length) held place

-- the extents at the first `until` places have no gap in front of them, except the one at `gap`
pub record IsPacked (packed : Packed) (held : List Extent) : Type 0 where
  pub inside : packed.until ≤ length held
  pub tight : (k : ℕ) → k < packed.until → k ≢ packed.gap → gap_at 0 held k ≡ 0

-- each gap at these places, from `start` up to `until`, has fewer blocks
abbrev pub AreShort : ℕ → ℕ → ℕ → List Extent → Type 0
AreShort start until count held =
    (k : ℕ) → start ≤ k → k < until → gap_at 0 held k < count

-- the gaps from `start` on are all too short for so many blocks, or the one at `gap` may not be
abbrev pub TellsShort : Packed → ℕ → ℕ → List Extent → Bool → Type 0
TellsShort packed start count held true = AreShort start packed.until count held
TellsShort packed start count held false = (start ≤ packed.gap) × (packed.gap < packed.until)

-- no free run of so many blocks begins before the extents at the first places end
abbrev pub HasNoneBefore : ℕ → ℕ → List Extent → Type 0
HasNoneBefore place count held =
    (first : ℕ) → first < end_from 0 (take place held) → IsFree first count held → ⊥
