-- The one clock over both areas, and what a crash at some moment of a call might have left.
use Rattle.std.specs.Prelude.{◌≡◌, ◌⊎◌, ℕ, ◌≤◌}
use Rattle.ov_disk.specs.Disk.{Image, Narrows}
use Rattle.ov_disk.specs.Tells.{DiskTells}

-- One call of a disk: a crash since some moment might have left what it might have left before the
-- call, or what it may leave now, and nothing else.
pub record Elapses {D : Type 0} (tells : DiskTells D) (old new : D) : Type 0 where
  pub later : tells.moment old ≤ tells.moment new
  pub nothing_else : (t : ℕ) (c : Image) → t ≤ tells.moment old → tells.left_since new t c
      → tells.left_since old t c ⊎ tells.may_leave new c
  pub keeps : (t : ℕ) (c : Image) → t ≤ tells.moment old → tells.left_since old t c
      → tells.left_since new t c

-- A crash at any moment from the old disk to the new one leaves an image that has P.
pub record LeavesOnly {D : Type 0} (tells : DiskTells D) (old new : D) (P : Image → Type 0)
    : Type 0 where
  pub later : tells.moment old ≤ tells.moment new
  pub each : (c : Image) → tells.left_since new (tells.moment old) c → P c
  -- for a run that began earlier: a crash since then might have left what it might have left
  -- before, or an image that has P
  pub before : (t : ℕ) (c : Image) → t ≤ tells.moment old → tells.left_since new t c
      → tells.left_since old t c ⊎ P c

-- Calls that write nothing: the disk reads the same, and a crash leaves nothing that it might not
-- have left at the start.
pub record IsUntouched {D : Type 0} (tells : DiskTells D) (old new : D) : Type 0 where
  pub reads_same : tells.reads new ≡ tells.reads old
  pub no_more : Narrows (tells.may_leave old) (tells.may_leave new)
  pub any_moment : LeavesOnly tells old new (tells.may_leave old)
