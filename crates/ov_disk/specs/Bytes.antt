-- Inner: no public contract needs this. Bytes in memory that remember how they began.
use Rattle.std.specs.Prelude.{ℕ, List, Option, Some, None, Vec}
use Rattle.std.specs.declared.alloc.Global.{Global}
use Rattle.ov_disk.specs.Disk.{Image}

-- one area, as it was at first and as it is
pub record Grown : Type 0 where
  pub start : List ℕ
  pub current : List ℕ

-- the bytes of an area: those from the start until they are copied to be changed
abbrev pub current_or : List ℕ → Option (Vec ℕ Global) → List ℕ
current_or start None = start
current_or start (Some v) = v.items

-- both areas, as they were at first and as they are
pub record Held : Type 0 where
  pub start : Image
  pub current : Image
