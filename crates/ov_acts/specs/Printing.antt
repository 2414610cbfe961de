-- What an act puts to standard output, and its status.
use Rattle.std.specs.Prelude.{◌≡◌, ◌⊎◌, ℕ, List, take, Option, Ok, Err}
use Rattle.std.specs.Io.KnownBytes.{Appends, Keeps}
use Rattle.ov_script.specs.Lines.{reply_line}
use Rattle.ov_script.specs.declared.reply.Reply.TheVariants.{Refused as RefusedReply}
use Rattle.ov_acts.specs.Stops.{Outcome, stop_code}
use Rattle.ov_acts.specs.declared.stop.Stop.TheVariants as stops

-- these bytes were put, and the status is this; or a front of them, and the status is 6
abbrev pub Puts : List ℕ → ℕ → Option (List ℕ) → Option (List ℕ) → ℕ → Type 0
Puts bytes code old new status =
    ((status ≡ code) × Appends old new bytes)
    ⊎ ((status ≡ 6) × ((n : ℕ) × Appends old new (take n bytes)))

-- nothing was put, and the status is this
abbrev pub PutsNone : ℕ → Option (List ℕ) → Option (List ℕ) → ℕ → Type 0
PutsNone code old new status = (status ≡ code) × Keeps old new

-- What is put of an outcome: the bytes, the line on a refusal unless memory was refused for it, or
-- nothing.
abbrev pub PutsOutcome : Outcome → Option (List ℕ) → Option (List ℕ) → ℕ → Type 0
PutsOutcome (Ok bytes) old new status = Puts bytes 0 old new status
PutsOutcome (Err (stops.Refused why)) old new status =
    Puts (reply_line (RefusedReply why)) 3 old new status ⊎ PutsNone 7 old new status
PutsOutcome (Err stop) old new status = PutsNone (stop_code stop) old new status

-- these statuses come of these reasons alone
pub record HasReason (status : ℕ) (outcome : Outcome) : Type 0 where
  pub read : status ≡ 5 → outcome ≡ Err stops.Read
  pub link : status ≡ 8 → outcome ≡ Err stops.Link
  pub keys : status ≡ 10 → outcome ≡ Err stops.BadKeys
  pub long : status ≡ 14 → outcome ≡ Err stops.TooLong
