-- Where the bytes of an extent are, and what a write to it leaves of both areas.
use Rattle.std.specs.Prelude.{◌≡◌, ◌≢◌, ◌⊎◌, ℕ, ◌+◌, ◌*◌, ◌≤◌, ◌<◌, List, length, slice_index, Contains}
use Rattle.ov_disk.specs.Disk.{Image}
use Rattle.ov_blocks.specs.declared.extents.Extent.{Extent}
use Rattle.ov_blocks.specs.declared.extents.TheConstants.{BLOCK_BYTES}

-- the place in Blobs of this byte of an extent with this first block
abbrev pub place_in_blobs : ℕ → ℕ → ℕ
place_in_blobs first start = BLOCK_BYTES * first + start

-- the new image has the old one's Book, a Blobs that is no shorter, and the old one's bytes outside
-- of these places
pub record IsChangedIn (at count : ℕ) (old new : Image) : Type 0 where
  pub book : new.book ≡ old.book
  pub no_shorter : length old.blobs ≤ length new.blobs
  pub outside : (p : ℕ) → p < length old.blobs → (p < at) ⊎ (at + count ≤ p)
      → slice_index new.blobs p ≡ slice_index old.blobs p

-- the extent has the same bytes, as far as the old Blobs had them
abbrev pub HasSameBytes : Extent → Image → Image → Type 0
HasSameBytes e old new =
    (p : ℕ) → BLOCK_BYTES * e.first ≤ p → p < BLOCK_BYTES * (e.first + e.length)
    → p < length old.blobs → slice_index new.blobs p ≡ slice_index old.blobs p

-- What a write of so many bytes, from `start` of the held extent with this first block on, makes of
-- an image, whether it is whole or not: nothing outside of the range is changed, and so no byte of
-- another held extent.
pub record PutsInto (first start count : ℕ) (held : List Extent) (old new : Image) : Type 0 where
  pub range : IsChangedIn (place_in_blobs first start) count old new
  pub others : (other : Extent) → Contains held other → other.first ≢ first
      → HasSameBytes other old new

-- an image that this step makes of one that might be left
abbrev pub IsLeftBy : (Image → Image → Type 0) → (Image → Type 0) → Image → Type 0
IsLeftBy step may_leave c = (d : Image) × may_leave d × step d c
