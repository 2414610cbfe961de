-- The line and the status for a store that isn't begun.
use Rattle.std.specs.Prelude.{◌≡◌, ℕ, List, [], ◌∷◌, ◌++◌, codes, length, ⊤}
use Rattle.std.specs.Fmt.{decimal}
use Rattle.hex.specs.Hex.{encode_lower}
use Rattle.ov_store.specs.declared.fault.BeginFault.{BeginFault}
use Rattle.ov_store.specs.declared.fault.BeginFault.TheVariants.{Disk, NotAStore, Damaged}
use Rattle.ov_store.specs.declared.fault.BeginFault.TheVariants.{BaseDiffers, SurfaceDiffers}
use Rattle.ov_store.specs.declared.fault.BeginFault.TheVariants.{ModeDiffers, Memory}
use Rattle.ov_base.specs.Modes.{mode_word}
use Rattle.ov_report.specs.Words.{area_word}

-- the line on a call of the disk that failed
abbrev pub disk_line : List ℕ
disk_line = codes "error disk" ++ 10 ∷ []

-- the line on memory that was refused
abbrev pub memory_line : List ℕ
memory_line = codes "error memory" ++ 10 ∷ []

-- two values in hexadecimal, each behind a space, and an LF
abbrev pub two_values : List ℕ → List ℕ → List ℕ
two_values stored other = 32 ∷ encode_lower stored ++ 32 ∷ encode_lower other ++ 10 ∷ []

-- the line on a store that isn't begun, for this reason
abbrev pub fault_line : BeginFault → List ℕ
fault_line Disk = disk_line
fault_line NotAStore = codes "error notastore" ++ 10 ∷ []
fault_line (Damaged area place) =
    codes "error damaged " ++ area_word area ++ 32 ∷ decimal place ++ 10 ∷ []
fault_line (BaseDiffers stored given) = codes "error key base" ++ two_values stored given
fault_line (SurfaceDiffers stored given) = codes "error key surface" ++ two_values stored given
fault_line (ModeDiffers stored given) =
    codes "error mode " ++ mode_word stored ++ 32 ∷ mode_word given ++ 10 ∷ []
fault_line Memory = memory_line

-- the status of a program whose store isn't begun, for this reason
abbrev pub fault_status : BeginFault → ℕ
fault_status Disk = 4
fault_status NotAStore = 8
fault_status (Damaged area place) = 8
fault_status (BaseDiffers stored given) = 9
fault_status (SurfaceDiffers stored given) = 9
fault_status (ModeDiffers stored given) = 9
fault_status Memory = 7

-- the values that are named have one length
abbrev pub HasValues : BeginFault → Type 0
HasValues Disk = ⊤
HasValues NotAStore = ⊤
HasValues (Damaged area place) = ⊤
HasValues (BaseDiffers stored given) = length stored ≡ length given
HasValues (SurfaceDiffers stored given) = length stored ≡ length given
HasValues (ModeDiffers stored given) = ⊤
HasValues Memory = ⊤
