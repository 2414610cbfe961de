-- What a disk tells of itself, which no call can ask of it: one value, which contracts take whole.
use Rattle.std.specs.Prelude.{◌≡◌, ◌≤◌, ℕ, Option, Some}
use Rattle.ov_disk.specs.Disk.{Image}

pub record DiskTells (D : Type 0) : Type 1 where
  -- what reads give of each area, where this disk tells it
  pub reads : D → Option Image
  -- what a crash at this moment may leave
  pub may_leave : D → Image → Type 0
  -- the moment, by one clock over both areas, which doesn't fall
  pub moment : D → ℕ
  -- what a crash at some moment from that one on might have left, during a call or between two
  pub left_since : D → ℕ → Image → Type 0
  -- how often the disk has failed; the count stays at 18,446,744,073,709,551,615
  pub faults : D → ℕ
  -- which loan this is, for a disk that is itself behind a `&mut`, and 0 for any other
  pub borrow : D → ℕ
  -- this moment is one of those since an earlier one
  pub counts_now : (disk : D) (t : ℕ) (c : Image) → t ≤ moment disk → may_leave disk c
      → left_since disk t c
  -- since this moment there is no other
  pub only_now : (disk : D) (c : Image) → left_since disk (moment disk) c → may_leave disk c
  -- what a disk reads is an image that a crash may leave
  pub reads_one : (disk : D) (i : Image) → reads disk ≡ Some i → may_leave disk i
