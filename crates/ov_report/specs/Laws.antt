-- Why a store isn't begun on an image that stands for a history.
use Rattle.std.specs.Prelude.{◌≡◌, ◌⊎◌}
use Rattle.ov_base.specs.declared.mode.Mode.{Mode}
use Rattle.ov_disk.specs.Disk.{Image}
use Rattle.ov_images.specs.Images.{Keys, StandsIn}
use Rattle.ov_store.specs.Beginning.{IsBeginFault}
use Rattle.ov_store.specs.declared.fault.BeginFault.{BeginFault}
use Rattle.ov_store.specs.declared.fault.BeginFault.TheVariants.{Disk, Memory}
use Rattle.ov_report.specs.Faults.{HasValues}

-- no image that stands for a history of these keys and this mode is refused, unless the disk failed
-- or memory was refused
abbrev pub StandingImagesOpen : Type 0
StandingImagesOpen =
    (k : Keys) (mode : Mode) (i : Image) (fault : BeginFault)
    → HasValues fault → StandsIn k mode i → IsBeginFault k mode i fault
    → (fault ≡ Disk) ⊎ (fault ≡ Memory)
