-- What puts come to: one of them read again, and two of them one after the other.
use Rattle.std.specs.Prelude.{◌≡◌, ℕ, ◌+◌, ◌≤◌, List, length, take, drop}
use Rattle.ov_disk.specs.Disk.{Image, written}
use Rattle.ov_disk.specs.declared.area.Area.TheVariants.{Blobs}
use Rattle.ov_blocks.specs.Writes.{IsChangedIn}

-- Bytes that are written to Blobs stand there, if their place is in Blobs or at its end.
abbrev pub PutsStandThere : Type 0
PutsStandThere =
    (at : ℕ) (bytes : List ℕ) (i : Image) → at ≤ length i.blobs
    → take (length bytes) (drop at (written Blobs at bytes i).blobs) ≡ bytes

-- Nothing but their places has changed.
abbrev pub PutsChangeTheirRange : Type 0
PutsChangeTheirRange =
    (at : ℕ) (bytes : List ℕ) (i : Image) → at ≤ length i.blobs
    → IsChangedIn at (length bytes) i (written Blobs at bytes i)

-- these places are some of those
pub record AreWithin (at n first count : ℕ) : Type 0 where
  pub begins : first ≤ at
  pub ends : at + n ≤ first + count

-- Two changes, one after the other, each within one range, are a change of that range.
abbrev pub ChangesGoOn : Type 0
ChangesGoOn =
    (at n next m first count : ℕ) (i j k : Image)
    → AreWithin at n first count → AreWithin next m first count
    → IsChangedIn at n i j → IsChangedIn next m j k → IsChangedIn first count i k
