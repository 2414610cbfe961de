-- Inner: no public contract needs this. What a journal knows of its step record.
use Rattle.std.specs.Prelude.{◌≡◌, ◌<◌, ℕ, List, length, Bool, true, false, Option, Some, None}
use Rattle.std.specs.List.{remove}
use Rattle.ov_journal.specs.Steps.{before_step}
use Rattle.ov_journal.specs.declared.step.Step.{Step}
use Rattle.ov_journal.specs.declared.step.Step.TheVariants.{Never, Due, Made}

-- how many records are in the first form, of this many
abbrev pub old_of : Step → ℕ → Option ℕ
old_of Never count = None
old_of Due count = Some count
old_of (Made old) count = Some old

-- the step record has to come before the next record
abbrev pub awaits : Step → Bool
awaits Never = false
awaits Due = true
awaits (Made old) = false

-- what is known once the step record stands behind this many records, where it was due
abbrev pub made_behind : Step → ℕ → Step
made_behind Never count = Never
made_behind Due count = Made count
made_behind (Made old) count = Made old

-- what is known of the step record is so among these bodies, of a store of the first format or not
abbrev pub IsStepIn : Step → Bool → List (List ℕ) → Type 0
IsStepIn Never first bodies = first ≡ false
IsStepIn Due first bodies = (first ≡ true) × (before_step bodies ≡ length bodies)
IsStepIn (Made old) first bodies =
    (first ≡ true) × (before_step bodies ≡ old) × (old < length bodies)

-- the gates of all records but the step record, of those of all
abbrev pub shown : Step → List ℕ → List ℕ
shown Never gates = gates
shown Due gates = gates
shown (Made old) gates = remove gates old
