-- What each call does to a disk that it uses, whatever it is for.
use Rattle.std.specs.Prelude.{◌≡◌, ◌≤◌}
use Rattle.ov_base.specs.Causes.{Rose}
use Rattle.ov_disk.specs.Tells.{DiskTells}

-- A call leaves the disk's loan, and its count of faults doesn't fall; where the call failed for a
-- fault of the disk, the count rose.
pub record IsDiskCall {D : Type 0} (tells : DiskTells D) (failed : Type 0) (old new : D)
    : Type 0 where
  pub same : tells.borrow new ≡ tells.borrow old
  pub later : tells.faults old ≤ tells.faults new
  pub rose : failed → Rose (tells.faults old) (tells.faults new)
