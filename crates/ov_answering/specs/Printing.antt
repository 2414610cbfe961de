-- What a run prints, and with which status it ends.
use Rattle.std.specs.Prelude.{◌≡◌, ◌⊎◌, ℕ, List, [], ◌∷◌, ◌++◌, codes, take, Option}
use Rattle.std.specs.Fmt.{decimal}
use Rattle.std.specs.Io.KnownBytes.{Appends}
use Rattle.ov_script.specs.declared.command.Command.{Command}
use Rattle.ov_script.specs.declared.reply.Reply.TheVariants.{End}
use Rattle.ov_script.specs.Lines.{reply_line}
use Rattle.ov_script.specs.Reading.{IsScript, BeginsScript, Ending, AtEnd, BadAt, TooLong}
use Rattle.ov_history.specs.History.{epoch_of}
use Rattle.ov_history.specs.Plain.{PlainHistory, history_of}
use Rattle.ov_model.specs.Lines.{lines}
use Rattle.ov_model.specs.Step.{after_all}
use Rattle.ov_report.specs.Faults.{disk_line, memory_line}

-- How a run ends that has its masters and whose disk opens: the script was read to its ending and
-- answered, a call of the disk or a read failed, or memory was refused.
pub data Outcome : Type 0 where
  Answered : (ending : Ending) → Outcome
  DiskFault : Outcome
  ReadFault : Outcome
  OutOfMemory : Outcome

-- the status with which a run ends so
abbrev pub status_of : Outcome → ℕ
status_of (Answered AtEnd) = 0
status_of (Answered (BadAt n)) = 3
status_of (Answered TooLong) = 11
status_of DiskFault = 4
status_of ReadFault = 5
status_of OutOfMemory = 7

-- the line on words that aren't known
abbrev pub usage_line : List ℕ
usage_line = codes "error usage" ++ 10 ∷ []

-- the line on a key file that is none
abbrev pub keys_line : List ℕ
keys_line = codes "error keys" ++ 10 ∷ []

-- the line on a read that failed
abbrev pub read_line : List ℕ
read_line = codes "error read" ++ 10 ∷ []

-- the line that names a bad line of the script
abbrev pub bad_line : ℕ → List ℕ
bad_line n = codes "error line " ++ decimal n ++ 10 ∷ []

-- the line on a script that is too long
abbrev pub long_line : List ℕ
long_line = codes "error long" ++ 10 ∷ []

-- the last line at this history, by how the reading of the script ended
abbrev pub last_line : PlainHistory → Ending → List ℕ
last_line p AtEnd = reply_line (End (epoch_of (history_of p)))
last_line p (BadAt n) = bad_line n
last_line p TooLong = long_line

-- What a run over this script, from this history on, that ends so prints: the machine's lines to
-- its commands, or to the first of them, and then the last line.
abbrev pub IsPrinted : PlainHistory → List ℕ → Outcome → List ℕ → Type 0
IsPrinted h text (Answered ending) printed =
    (commands : List Command) × IsScript text commands ending
    × (printed
    ≡ lines h commands ++ last_line (after_all h commands) ending)
IsPrinted h text DiskFault printed =
    (commands : List Command) × BeginsScript text commands
    × (printed ≡ lines h commands ++ disk_line)
IsPrinted h text ReadFault printed =
    (commands : List Command) × BeginsScript text commands
    × (printed ≡ lines h commands ++ read_line)
IsPrinted h text OutOfMemory printed =
    (commands : List Command) × BeginsScript text commands
    × (printed ≡ lines h commands ++ memory_line)

-- all was put that some run over this script, which ends so, prints
abbrev pub Prints : PlainHistory → List ℕ → Outcome → Option (List ℕ) → Option (List ℕ) → Type 0
Prints h text outcome old new =
    (printed : List ℕ) × IsPrinted h text outcome printed × Appends old new printed

-- a front of what some run over this script prints was put
abbrev pub PrintsFront : PlainHistory → List ℕ → Option (List ℕ) → Option (List ℕ) → Type 0
PrintsFront h text old new =
    (outcome : Outcome) × (printed : List ℕ) × IsPrinted h text outcome printed
    × ((n : ℕ) × Appends old new (take n printed))

-- The status is that of the script's ending, whichever that is, or one of these.
abbrev pub StatusIsOf : List ℕ → ℕ → (ℕ → Type 0) → Type 0
StatusIsOf text status Other =
    (commands : List Command) (ending : Ending)
    → IsScript text commands ending → (status ≡ status_of (Answered ending)) ⊎ Other status

-- memory was refused
abbrev pub IsMemory : ℕ → Type 0
IsMemory status = status ≡ 7

-- a read, a write or a call of the disk failed, or memory was refused
abbrev pub IsFault : ℕ → Type 0
IsFault status = (status ≡ 5) ⊎ ((status ≡ 6) ⊎ ((status ≡ 7) ⊎ (status ≡ 4)))

-- the script was answered, to its end or to what ended it
abbrev pub IsAnswered : ℕ → Type 0
IsAnswered status = (status ≡ 0) ⊎ ((status ≡ 3) ⊎ (status ≡ 11))

-- a run over a store that was begun has one of these statuses: 12 is a wrong tag
abbrev pub IsScriptStatus : ℕ → Type 0
IsScriptStatus status = IsAnswered status ⊎ (IsFault status ⊎ (status ≡ 12))

-- the disk has no store of these keys and mode
abbrev pub IsRefused : ℕ → Type 0
IsRefused status = (status ≡ 8) ⊎ (status ≡ 9)

-- a run that read its key file has one of these statuses
abbrev pub IsStoreStatus : ℕ → Type 0
IsStoreStatus status = IsRefused status ⊎ IsScriptStatus status

-- a run that looked at its key file has one of these statuses
abbrev pub IsKeysStatus : ℕ → Type 0
IsKeysStatus status = (status ≡ 10) ⊎ IsStoreStatus status

-- a run has one of these statuses
abbrev pub IsStatus : ℕ → Type 0
IsStatus status = (status ≡ 2) ⊎ IsKeysStatus status
