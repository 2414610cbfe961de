-- Why a call by the owner's book ends for a fault or a file.
use Rattle.std.specs.Prelude.{◌≡◌, ◌⊎◌, Result, Err}
use Rattle.ov_acts.specs.Causes.{TakesUpTo, most_bytes}
use Rattle.ov_io.specs.Tells.{SourceTells}
use Rattle.ov_owning.specs.Intents.{StoresFile}
use Rattle.ov_owning.specs.declared.job.OwnAct.{OwnAct}
use Rattle.ov_owning.specs.declared.stop.OwnStop.{OwnStop}
use Rattle.ov_owning.specs.declared.stop.OwnStop.TheVariants as stops

-- The key file is said to be none only where it isn't one, a file not to have been read only where
-- the count of one rose, the link to have failed only where the peer's count rose, and the book's
-- disk only where that of the disk did.
pub record OwnStopsFor {T : Type 0} (no_keys reads links disks : Type 0) (end : Result T OwnStop)
    : Type 0 where
  pub keys : end ≡ Err stops.BadKeys → no_keys
  pub read : end ≡ Err stops.Read → reads
  pub link : end ≡ Err stops.Link → links
  pub disk : end ≡ Err stops.Disk → disks

-- the file to be stored is taken from only by an act that stores one, and up to one byte more than a
-- file may have
abbrev pub TakesStored : {S : Type 0} → SourceTells S → OwnAct → S → S → Type 0
TakesStored tells act old new =
    (new ≡ old) ⊎ (StoresFile act × TakesUpTo tells most_bytes old new)
