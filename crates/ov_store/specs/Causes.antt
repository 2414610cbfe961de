-- That one cause is said of an image.
use Rattle.std.specs.Prelude.{◌≡◌, length, ⊤}
use Rattle.ov_base.specs.declared.mode.Mode.{Mode}
use Rattle.ov_disk.specs.Disk.{Image}
use Rattle.ov_images.specs.Images.{Keys}
use Rattle.ov_store.specs.Beginning.{IsBeginFault}
use Rattle.ov_store.specs.declared.fault.BeginFault.{BeginFault}
use Rattle.ov_store.specs.declared.fault.BeginFault.TheVariants.{Disk as DiskFailed, NotAStore}
use Rattle.ov_store.specs.declared.fault.BeginFault.TheVariants.{Damaged, BaseDiffers}
use Rattle.ov_store.specs.declared.fault.BeginFault.TheVariants.{SurfaceDiffers, ModeDiffers, Memory}

-- The cause is one of the image's, and no fault of the disk or of memory. The check value that it
-- says of the image's base master is as long as the one that is given.
abbrev pub IsOfImage : BeginFault → Type 0
IsOfImage DiskFailed = ⊥
IsOfImage NotAStore = ⊤
IsOfImage (Damaged area place) = ⊤
IsOfImage (BaseDiffers stored given) = length stored ≡ length given
IsOfImage (SurfaceDiffers stored given) = ⊤
IsOfImage (ModeDiffers stored given) = ⊤
IsOfImage Memory = ⊥

-- Of each image there is at most one cause, under the same keys and the same mode, with one place
-- and the same values: an earlier one in the order in which they are tried rules out the later ones.
abbrev pub CausesAreOne : Type 0
CausesAreOne =
    (k : Keys) (mode : Mode) (i : Image) (one other : BeginFault) → length k.base_check ≡ 32
    → IsOfImage one → IsBeginFault k mode i one → IsOfImage other → IsBeginFault k mode i other
    → one ≡ other
