-- What a run promises.
use Rattle.std.specs.Prelude.{◌≡◌, ℕ, List, Option, IfSome, String}
use Rattle.std.specs.declared.alloc.Global.{Global}
use Rattle.ov_base.specs.declared.mode.Mode.{Mode}
use Rattle.ov_disk.specs.Disk.{Image, Told}
use Rattle.ov_disk.specs.Tells.{DiskTells}
use Rattle.ov_script.specs.Reading.{AtEnd, BadAt, TooLong}
use Rattle.ov_history.specs.Masters.{Masters}
use Rattle.ov_history.specs.Plain.{PlainHistory}
use Rattle.ov_machine.specs.Machine.{AreMasters}
use Rattle.ov_answering.specs.Lasting.{OpensAs}
use Rattle.ov_answering.specs.Printing.{Prints, PrintsFront, Answered, DiskFault, ReadFault}
use Rattle.ov_answering.specs.Printing.{OutOfMemory, IsFault, IsMemory, StatusIsOf}
use Rattle.ov_run.specs.Words.{IsRun}

-- What a run over this script prints, from this history on. With 0 it is the machine's lines to the
-- whole script and the end line, and nothing else; with 3 and 11 the same lines to the commands
-- before, and then the error line; with 4, 5 and 7 the lines to the first commands, and then the
-- error line; with 6 a front of what some run over this script prints.
pub record PrintsAs (h : PlainHistory) (text : List ℕ) (status : ℕ) (old new : Option (List ℕ))
    : Type 0 where
  pub done : status ≡ 0 → Prints h text (Answered AtEnd) old new
  pub bad_line : status ≡ 3 → (n : ℕ) × Prints h text (Answered (BadAt n)) old new
  pub long : status ≡ 11 → Prints h text (Answered TooLong) old new
  pub disk : status ≡ 4 → Prints h text DiskFault old new
  pub read : status ≡ 5 → Prints h text ReadFault old new
  pub memory : status ≡ 7 → Prints h text OutOfMemory old new
  pub write : status ≡ 6 → PrintsFront h text old new

-- The script alone decides the status, but for faults; and where no count of faults rose, but for
-- memory that was refused.
pub record IsDecided (text : List ℕ) (status : ℕ) (keys input out disk : Type 0) : Type 0 where
  pub exact : StatusIsOf text status IsFault
  pub complete : (keys → ⊥) → (input → ⊥) → (out → ⊥) → (disk → ⊥) → StatusIsOf text status IsMemory

-- ---- from where

-- This holds in the mode of the words, under the masters of the key file, for the script and for
-- each history as which the disk opens for them.
abbrev pub FromEach : {D : Type 0} → DiskTells D → D → List (String Global)
    → Option (List ℕ) → Option (List ℕ) → (Masters → PlainHistory → List ℕ → Type 0) → Type 0
FromEach tells disk words keys input P =
    (mode : Mode) → IsRun mode words → IfSome keys (λ file. IfSome input (λ text.
    (k : Masters) (p : PlainHistory) → AreMasters file k → OpensAs tells k mode p disk
    → P k p text))

-- this holds in the mode of the words, under the masters of the key file, for the image that the
-- disk reads
abbrev pub ForImage : Option Image → List (String Global) → Option (List ℕ)
    → (Masters → Mode → Image → Type 0) → Type 0
ForImage image words keys P =
    (mode : Mode) → IsRun mode words → IfSome keys (λ file.
    (k : Masters) → AreMasters file k → Told image (P k mode))

-- what a run promises of its script where the disk opens: the lines that it prints, its status,
-- when it takes and puts, the frames that it sends, and what a stop leaves
pub record RunsWell (Lines Status Pace Frames Stops : Type 0) : Type 0 where
  pub printed : Lines
  pub decided : Status
  pub paced : Pace
  pub traced : Frames
  pub survives : Stops
