-- How a program ends that puts a last line.
use Rattle.std.specs.Prelude.{◌≡◌, ◌≤◌, ◌⊎◌, ℕ, List, take, Option}
use Rattle.std.specs.Io.KnownBytes.{Appends}
use Rattle.ov_base.specs.Causes.{Rose}
use Rattle.ov_io.specs.Tells.{SinkTells}
use Rattle.ov_report.specs.Faults.{memory_line}

-- this line was put, and the status is this; or a front of it, and the status is 6
abbrev pub EndsIn : List ℕ → ℕ → Option (List ℕ) → Option (List ℕ) → ℕ → Type 0
EndsIn last code old new status =
    ((status ≡ code) × Appends old new last)
    ⊎ ((status ≡ 6) × ((n : ℕ) × Appends old new (take n last)))

-- The program ends with this last line, or with the line that says that memory was refused for it.
abbrev pub EndsOr : List ℕ → ℕ → Option (List ℕ) → Option (List ℕ) → ℕ → Type 0
EndsOr last code old new status =
    EndsIn last code old new status ⊎ EndsIn memory_line 7 old new status

-- A sink was put to: it keeps its loan, its count of faults doesn't fall, and the count rose where
-- the status is 6.
pub record IsPutTo {O : Type 0} (tells : SinkTells O) (old new : O) (status : ℕ) : Type 0 where
  pub same : tells.borrow new ≡ tells.borrow old
  pub later : tells.faults old ≤ tells.faults new
  pub write : status ≡ 6 → Rose (tells.faults old) (tells.faults new)
