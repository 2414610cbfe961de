-- The statuses of a program that reads a store again.
use Rattle.std.specs.Prelude.{ℕ, ◌≡◌, ◌⊎◌}
use Rattle.ov_answering.specs.Printing.{IsFault, IsRefused}

-- a reading that has its key file ends with one of these statuses
abbrev pub IsFoundStatus : ℕ → Type 0
IsFoundStatus status = (status ≡ 0) ⊎ (IsRefused status ⊎ IsFault status)

-- a reading that looked at its key file ends with one of these statuses
abbrev pub IsAskedStatus : ℕ → Type 0
IsAskedStatus status = (status ≡ 10) ⊎ IsFoundStatus status
