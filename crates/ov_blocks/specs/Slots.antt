-- Inner: no public contract needs this. Extents in a list that has a slot for one more, which was
-- given up.
use Rattle.std.specs.Prelude.{ℕ, ◌<◌, List, length, Option, None, Some, IfSome}
use Rattle.std.specs.List.{remove}
use Rattle.ov_blocks.specs.declared.extents.Extent.{Extent}

-- the list without what stands at this place, or all of it where there is no place
abbrev pub without : Option ℕ → List Extent → List Extent
without None slots = slots
without (Some place) slots = remove slots place

-- the place, where there is one, is in the list
abbrev pub HasSlot : Option ℕ → List Extent → Type 0
HasSlot gone slots = IfSome gone (λ place. place < length slots)
