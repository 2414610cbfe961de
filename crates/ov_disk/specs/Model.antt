-- The disk model said at once, with no order of the writes since a sync: what a crash may leave.
use Rattle.std.specs.Prelude.{◌≡◌, ◌⊎◌, ◌↔◌, ℕ, ◌+◌, ◌<◌, ◌≤◌, max, List, [], ◌∷◌, length, slice_index, ⊤}
use Rattle.ov_disk.specs.declared.area.Area.{Area}
use Rattle.ov_disk.specs.declared.area.Area.TheVariants.{Book, Blobs}
use Rattle.ov_disk.specs.Disk.{Image, bytes_of, TornIn}

-- a range of an area, `count` bytes from `at` on
pub record Range : Type 0 where
  pub at : ℕ
  pub count : ℕ

-- a write since the last sync. In a list of them the last one is first.
pub record Put : Type 0 where
  pub area : Area
  pub range : Range

-- the place is in none of these ranges
abbrev pub IsOutside : ℕ → List Range → Type 0
IsOutside p [] = ⊤
IsOutside p (r ∷ rs) = ((p < r.at) ⊎ (r.at + r.count ≤ p)) × IsOutside p rs

-- the length of an area of n bytes after all these writes
abbrev pub longest : List Range → ℕ → ℕ
longest [] n = n
longest (r ∷ rs) n = max (longest rs n) (r.at + r.count)

-- What a crash may make of an area that was synced as `old`, if these ranges were written since:
-- any length from the least to the greatest, any bytes in the ranges and past the old end, and the
-- same bytes elsewhere.
pub record MayHold (ranges : List Range) (old new : List ℕ) : Type 0 where
  pub no_shorter : length old ≤ length new
  pub no_longer : length new ≤ longest ranges (length old)
  pub outside : (p : ℕ) → p < length old → IsOutside p ranges
      → slice_index new p ≡ slice_index old p

-- the ranges of an area, and before them the range of a write, if that was in this area
abbrev pub with_range : Area → Area → Range → List Range → List Range
with_range Book Book r rs = r ∷ rs
with_range Book Blobs r rs = rs
with_range Blobs Book r rs = rs
with_range Blobs Blobs r rs = r ∷ rs

-- the ranges that were written in an area
abbrev pub ranges_in : Area → List Put → List Range
ranges_in area [] = []
ranges_in area (w ∷ ws) = with_range area w.area w.range (ranges_in area ws)

-- what a disk tells of these writes one after the other: each may tear what those before it left
abbrev pub LeftAfter : List Put → Image → Image → Type 0
LeftAfter [] i c = c ≡ i
LeftAfter (w ∷ ws) i c = (d : Image) × LeftAfter ws i d × TornIn w.area w.range.at w.range.count d c

-- each write began inside its area or at its end
abbrev pub BeginInside : List Put → Image → Type 0
BeginInside [] i = ⊤
BeginInside (w ∷ ws) i =
    (w.range.at ≤ longest (ranges_in w.area ws) (length (bytes_of w.area i))) × BeginInside ws i

-- Writes that tear one after the other leave just what the model says.
abbrev pub TornWritesAreTheModel : Type 0
TornWritesAreTheModel =
    (writes : List Put) (i c : Image) → BeginInside writes i
    → (LeftAfter writes i c
    ↔ (MayHold (ranges_in Book writes) i.book c.book
    × MayHold (ranges_in Blobs writes) i.blobs c.blobs))
