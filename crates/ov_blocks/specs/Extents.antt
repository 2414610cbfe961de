-- Extents that are held in Blobs, in the order of their places, and runs of blocks that are free.
use Rattle.std.specs.Prelude.{◌≡◌, ◌⊎◌, ℕ, ◌+◌, ◌-◌, ◌*◌, ◌/◌, ◌≤◌, ◌<◌, List, [], ◌∷◌, ◌++◌, length, All, Contains, Bool, true, false, ⊤, slice_index_or}
use Rattle.ov_blocks.specs.declared.extents.Extent.{Extent}
use Rattle.ov_blocks.specs.declared.extents.TheConstants.{BLOCK_BYTES, MAX_BLOCKS, MAX_EXTENT_BLOCKS, MAX_HELD}

-- ---- blocks of bytes

-- how many blocks take so many bytes
abbrev pub blocks_of : ℕ → ℕ
blocks_of count = (count + (BLOCK_BYTES - 1)) / BLOCK_BYTES

-- ---- what is held

-- Each of these extents has a block or more. The first begins at block `from` or behind it, and
-- each other one where the one before it ends, or behind that. The last ends where blocks end, or
-- before.
abbrev pub AreApart : ℕ → List Extent → Type 0
AreApart from [] = from ≤ MAX_BLOCKS
AreApart from (e ∷ held) = (from ≤ e.first) × (1 ≤ e.length) × AreApart (e.first + e.length) held

-- where the last of these extents ends, or block `from` where there are none
abbrev pub end_from : ℕ → List Extent → ℕ
end_from from [] = from
end_from from (e ∷ held) = end_from (e.first + e.length) held

-- how many blocks these extents have
abbrev pub blocks_held : List Extent → ℕ
blocks_held [] = 0
blocks_held (e ∷ held) = e.length + blocks_held held

-- the block is one of the extent's
abbrev pub IsBlockOf : ℕ → Extent → Type 0
IsBlockOf block e = (e.first ≤ block) × (block < e.first + e.length)

-- a block is in the extent at one place of this list at most, so no extent stands in it twice
abbrev pub ShareNoBlock : List Extent → Type 0
ShareNoBlock held =
    (block i j : ℕ) (d : Extent) → i < length held → j < length held
    → IsBlockOf block (slice_index_or held i d) → IsBlockOf block (slice_index_or held j d) → i ≡ j

-- ---- runs that are free

-- the run of so many blocks from `first` on has no block in common with the extent
abbrev pub IsBeside : ℕ → ℕ → Extent → Type 0
IsBeside first count e = (first + count ≤ e.first) ⊎ (e.first + e.length ≤ first)

-- the run has no block in common with any of these extents
abbrev pub IsFree : ℕ → ℕ → List Extent → Type 0
IsFree first count [] = ⊤
IsFree first count (e ∷ held) = IsBeside first count e × IsFree first count held

-- There are so few extents, and these and a new one of so many blocks are so short, that each new
-- one ends where blocks end, or before.
pub record HasPlace (count : ℕ) (held : List Extent) : Type 0 where
  pub some : 1 ≤ count
  pub few : length held ≤ MAX_HELD
  pub short : All (λ (e : Extent). e.length ≤ MAX_EXTENT_BLOCKS) held
  pub new_short : count ≤ MAX_EXTENT_BLOCKS

-- ---- one more, and one less

-- the extents with one more, at its place
pub record IsWith (e : Extent) (old new : List Extent) : Type 0 where
  pub front : List Extent
  pub back : List Extent
  pub before : old ≡ front ++ back
  pub after : new ≡ front ++ e ∷ back

-- What is answered to an extent that was to be held: it was free and is held now, or it wasn't free
-- and nothing changed.
abbrev pub Holds : Extent → List Extent → List Extent → Bool → Type 0
Holds e old new true = IsFree e.first e.length old × IsWith e old new
Holds e old new false = (IsFree e.first e.length old → ⊥) × (new ≡ old)

-- one of these extents begins at this block
abbrev pub BeginsOne : List Extent → ℕ → Type 0
BeginsOne held first = (e : Extent) × Contains held e × (e.first ≡ first)

-- Of the extents that were held, just those are given up that begin at these blocks, one at each.
pub record AreGivenUp (gone : List ℕ) (old new : List Extent) : Type 0 where
  pub kept : (e : Extent) → Contains old e → (Contains gone e.first → ⊥) → Contains new e
  pub less : (e : Extent) → Contains new e → Contains old e
  pub none : (e : Extent) → Contains new e → Contains gone e.first → ⊥
  pub many : length new + length gone ≡ length old

-- this many bytes, from `start` on, lie in the held extent with this first block
pub record IsInside (first start count : ℕ) (held : List Extent) : Type 0 where
  pub extent : Extent
  pub is_held : Contains held extent
  pub first_is : extent.first ≡ first
  pub inside : start + count ≤ BLOCK_BYTES * extent.length
