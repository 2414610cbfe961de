-- Inner: no public contract needs this. Where a run stands among extents in the order of their
-- places.
use Rattle.std.specs.Prelude.{◌≡◌, ℕ, ◌+◌, ◌≤◌, ◌<◌, List, length, Bool, true, false, Contains, slice_index_or}
use Rattle.ov_blocks.specs.declared.extents.Extent.{Extent}
use Rattle.ov_blocks.specs.Extents.{IsFree}

-- the first `place` of the extents, and no others, begin before this block
pub record IsCountBefore (first place : ℕ) (held : List Extent) : Type 0 where
  pub inside : place ≤ length held
  pub before : (k : ℕ) (d : Extent) → k < place → (slice_index_or held k d).first < first
  pub behind : (k : ℕ) (d : Extent) → place ≤ k → k < length held
      → first ≤ (slice_index_or held k d).first

-- the run begins where the extent before this place ends, or behind that, and ends where the one at
-- this place begins, or before that
pub record IsBetween (place first count : ℕ) (held : List Extent) : Type 0 where
  pub inside : place ≤ length held
  pub before : (k : ℕ) (d : Extent) → k + 1 ≡ place
      → (slice_index_or held k d).first + (slice_index_or held k d).length ≤ first
  pub behind : (d : Extent) → place < length held
      → first + count ≤ (slice_index_or held place d).first

-- the run is there, or it isn't free
abbrev pub TellsFree : ℕ → ℕ → ℕ → List Extent → Bool → Type 0
TellsFree place first count held true = IsBetween place first count held
TellsFree place first count held false = IsFree first count held → ⊥

-- the block is none of these, or it is one
abbrev pub TellsNone : ℕ → List ℕ → Bool → Type 0
TellsNone block blocks true = Contains blocks block → ⊥
TellsNone block blocks false = Contains blocks block

-- the run is there, or it isn't
abbrev pub TellsBetween : ℕ → ℕ → ℕ → List Extent → Bool → Type 0
TellsBetween place first count held true = IsBetween place first count held
TellsBetween place first count held false = IsBetween place first count held → ⊥

-- the run is free, and no other of so many blocks that begins before it
pub record IsLowest (first count : ℕ) (held : List Extent) : Type 0 where
  pub free : IsFree first count held
  pub lower : (other : ℕ) → other < first → IsFree other count held → ⊥
