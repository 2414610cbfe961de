-- What a call that wrote Book has made last, and what it leaves whatever it answers.
use Rattle.std.specs.Prelude.{◌≡◌, ℕ, List, Some}
use Rattle.ov_disk.specs.Disk.{Image, StaysTold, StaysUntold, Told}
use Rattle.ov_disk.specs.Moments.{LeavesOnly}
use Rattle.ov_disk.specs.Tells.{DiskTells}
use Rattle.ov_journal.specs.Book.{Contents}
use Rattle.ov_journal.specs.Log.{Log, IsBeforeOrAfter, IsKept, Stands}

-- Where the disk told its bytes before, each image that a crash may leave now has these contents of
-- Book and the Blobs that were read before; and a disk that tells its bytes now told them before.
pub record Lasts {D : Type 0} (tells : DiskTells D) (old new : D) (contents : Image → Contents)
    : Type 0 where
  pub kept : Told (tells.reads old) (λ i. IsKept tells new (contents i) i.blobs)
  pub told_before : Told (tells.reads new) (λ _. (i : Image) × (tells.reads old ≡ Some i))

-- These contents of Book last, with the Blobs that were read before, and this journal stands for
-- what the disk reads and for each image that a crash may leave.
pub record IsAcknowledged {D : Type 0} (tells : DiskTells D) (log : Log) (old new : D)
    (contents : Image → Contents) : Type 0 where
  pub written : Lasts tells old new contents
  pub stands : Stands tells log new

-- A call adds at most a record with this body, whatever it answers: from a disk that told its bytes
-- a crash at any moment leaves the bodies from before, with this one or without; a disk that told
-- nothing still tells nothing, and one that told its bytes still tells them.
pub record AddsAtMost {D : Type 0} (tells : DiskTells D) (body : List ℕ) (old new : D)
    : Type 0 where
  pub leaves : Told (tells.reads old) (λ i.
      LeavesOnly tells old new (IsBeforeOrAfter (tells.may_leave old) i body))
  pub untold : StaysUntold (tells.reads old) (tells.reads new)
  pub told : StaysTold (tells.reads old) (tells.reads new)
