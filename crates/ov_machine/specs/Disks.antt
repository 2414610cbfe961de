-- What a disk keeps of a history.
use Rattle.std.specs.Prelude.{◌≡◌, ◌⊎◌}
use Rattle.std.specs.Prelude.{Option, Some}
use Rattle.ov_disk.specs.Disk.{Image, Told}
use Rattle.ov_disk.specs.Tells.{DiskTells}
use Rattle.ov_images.specs.Images.{IsImageOf, Keeps, keys_of}
use Rattle.ov_script.specs.declared.command.Command.{Command}
use Rattle.ov_history.specs.Masters.{Masters}
use Rattle.ov_history.specs.Plain.{PlainHistory}
use Rattle.ov_history.specs.Sealed.{SealedHistory}
use Rattle.ov_history.specs.Sealing.{IsSealedAs, IsSealedSince}
use Rattle.ov_model.specs.Step.{after}

-- ---- images

-- Each of these is said of a history that goes on from a start. Of the files that were gone at the
-- start nobody can tell the tags and the bytes. All else is as the history's owner seals it, and so
-- are the files that are removed or replaced since then.

-- the image keeps the history as it is sealed under the two masters, but for the tags and the bytes
-- of files that were gone at the start
abbrev pub KeepsPlain : Masters → PlainHistory → PlainHistory → Image → Type 0
KeepsPlain k start p c =
    (g : SealedHistory) × IsSealedSince k start p g × Keeps (keys_of k) g c

-- the image stands for the history as it is sealed under the two masters, but for the tags and the
-- bytes of files that were gone at the start
abbrev pub StandsForPlain : Masters → PlainHistory → PlainHistory → Image → Type 0
StandsForPlain k start p c =
    (g : SealedHistory) × IsSealedSince k start p g × IsImageOf (keys_of k) g c

-- the image keeps the history from before a command, or that after it
abbrev pub KeepsStep : Masters → PlainHistory → PlainHistory → Command → Image → Type 0
KeepsStep k start p command c =
    KeepsPlain k start p c ⊎ KeepsPlain k start (after p command) c

-- ---- disks

-- a disk doesn't tell its bytes
abbrev pub TellsNothing : Option Image → Type 0
TellsNothing reads = Told reads (λ _. ⊥)

module _ {D : Type 0} (tells : DiskTells D) where
  -- The disk tells its bytes, and each image that a crash may leave of it keeps one history. It is
  -- right by this one, and is its sealed form but for the tags and the bytes of files that were
  -- gone at the start.
  pub record Holds (k : Masters) (start p : PlainHistory) (disk : D) : Type 0 where
    pub told : (i : Image) × (tells.reads disk ≡ Some i)
    pub kept : SealedHistory
    pub right : IsSealedAs k p kept
    pub since : IsSealedSince k start p kept
    pub each : (c : Image) → tells.may_leave disk c → Keeps (keys_of k) kept c

  -- where the disk held the history, from whatever start, each image that a crash may leave of it
  -- now keeps the history after the command
  abbrev pub HasMade : Masters → PlainHistory → Command → D → D → Type 0
  HasMade k p command old new =
      (start : PlainHistory) → Holds k start p old
      → (c : Image) → tells.may_leave new c → KeepsPlain k start (after p command) c
