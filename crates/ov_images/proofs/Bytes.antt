-- The bytes of files, told by those of the extents in use.
use Rattle.std.proofs.Common.{◌≡◌, ℕ, ◌+◌, ◌*◌, ◌≤◌, ◌<◌, List, [], ◌∷◌, ◌++◌, length}
use Rattle.std.proofs.Common.{suc, take, drop, refl, sym, ◌∙◌, arith, length-drop}
use Rattle.std.specs.Prelude.{Contains, Option, Some, None}
use Rattle.std.proofs.lemmas.Grind.{same_number_lists}
use Rattle.std.proofs.lemmas.List.{get_or-drop, get_or-take, length-take-le}
use Rattle.ov_blocks.specs.Extents.{blocks_of}
use Rattle.ov_blocks.specs.Writes.{HasSameBytes}
use Rattle.ov_blocks.specs.declared.extents.Extent.{Extent}
use Rattle.ov_history.specs.Catalogue.{Filed}
use Rattle.ov_history.specs.Rewrites.{length_left}
use Rattle.ov_history.specs.Texts.{lengths_of}
use Rattle.ov_history.specs.Placed.{AllEndWithin, EndsWithin, block_bytes, bytes_at, cut, placed_of}
use Rattle.ov_disk.specs.Disk.{Image}
use Rattle.ov_images.specs.Extents.{catalogue_at, extent_at, extents_of}
use Rattle.ov_images.specs.Laws.{ExtentsTellBytes}
use Rattle.ov_images.proofs.Extents.{all_end, enough_blocks}

-- the extent of a first block
abbrev extent : ℕ → ℕ → Extent
extent first size = record { first = first; length = blocks_of size }

module _ (i c : Image) (longer : length i.blobs ≤ length c.blobs) where
  -- so many bytes from a first block on, which both have
  same_bytes : (first size : ℕ) → block_bytes * first + size ≤ length i.blobs
      → HasSameBytes (extent first size) i c
      → bytes_at c.blobs (Some first) size ≡ bytes_at i.blobs (Some first) size
  same_bytes first size within same =
      let at : ℕ = block_bytes * first in
      let one : length (take size (drop at c.blobs)) ≡ size =
      length-take-le size (drop at c.blobs)
      (omega (arith, within, longer, length-drop at c.blobs)) in
      let two : length (take size (drop at i.blobs)) ≡ size =
      length-take-le size (drop at i.blobs) (omega (arith, within, length-drop at i.blobs)) in
      same_number_lists (take size (drop at c.blobs)) (take size (drop at i.blobs))
      (one ∙ sym two) (λ n below.
      let lt : n < size = omega (arith, below, one) in
      get_or-take size (drop at c.blobs) n 0 lt ∙ get_or-drop at c.blobs n 0
      ∙ same (at + n) (omega arith) (omega (arith, lt, enough_blocks size))
      (omega (arith, lt, within))
      ∙ sym (get_or-take size (drop at i.blobs) n 0 lt ∙ get_or-drop at i.blobs n 0))

  -- all of these extents have the same bytes
  abbrev AllSame : List Extent → Type 0
  AllSame all = (e : Extent) → Contains all e → HasSameBytes e i c

  same_at : (place : Option ℕ) (size : ℕ) (rest : List Extent)
      → EndsWithin (length i.blobs) place size → AllSame (extent_at place size ++ rest)
      → bytes_at c.blobs place size ≡ bytes_at i.blobs place size
  same_at None size rest within all = refl
  same_at (Some first) size rest within all =
      same_bytes first size within
      (all (extent first size) (0, omega arith, refl))

  same_behind : (place : Option ℕ) (size : ℕ) (rest : List Extent)
      → AllSame (extent_at place size ++ rest) → AllSame rest
  same_behind None size rest all e there = all e there
  same_behind (Some first) size rest all e there =
      all e (suc there.0, omega (arith, there.1), there.2)

  same_cut : (files : List (Option Filed)) (placed : List (Option ℕ))
      → AllEndWithin (length i.blobs) files placed
      → AllSame (extents_of (lengths_of files) placed)
      → cut c.blobs files placed ≡ cut i.blobs files placed
  same_cut [] placed within all = refl
  same_cut (f ∷ files) [] within all = refl
  same_cut (f ∷ files) (place ∷ placed) within all =
      let rest = extents_of (lengths_of files) placed in
      let first = same_at place (length_left f) rest within.0 all in
      let others = same_cut files placed within.1 (same_behind place (length_left f) rest all) in
      λ j. first j ∷ others j

pub extents_tell_bytes : ExtentsTellBytes
extents_tell_bytes k p i c has longer all =
    same_cut i c longer (catalogue_at k.surface p).files (placed_of k.surface p)
    (all_end k.surface i.blobs p has.laid_out) all
