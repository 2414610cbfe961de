-- What a load does: the commands of a stated workload are answered, and their replies tallied.
use Rattle.std.specs.Prelude.{◌≡◌, ◌⊎◌, ℕ, ◌+◌, ◌≤◌, List, Option, IfSome}
use Rattle.std.specs.Prelude.{Result, Ok, Err, String}
use Rattle.std.specs.declared.alloc.Global.{Global}
use Rattle.sha2.specs.Hashers.{Holds256}
use Rattle.ov_base.specs.declared.mode.Mode.{Mode}
use Rattle.ov_disk.specs.Disk.{Image, Told}
use Rattle.ov_disk.specs.Moments.{LeavesOnly}
use Rattle.ov_disk.specs.Tells.{DiskTells}
use Rattle.ov_script.specs.Lines.{reply_line}
use Rattle.ov_script.specs.Workload.{first_commands, workload}
use Rattle.ov_script.specs.declared.command.Command.{Command}
use Rattle.ov_script.specs.declared.drawn.TheConstants.{WORKLOAD_USERS}
use Rattle.ov_script.specs.declared.reply.Reply.{Reply}
use Rattle.ov_history.specs.Masters.{Masters}
use Rattle.ov_history.specs.Plain.{PlainHistory}
use Rattle.ov_model.specs.Lines.{lines}
use Rattle.ov_model.specs.Step.{after_all, reply_to}
use Rattle.ov_report.specs.Ends.{EndsIn, EndsOr}
use Rattle.ov_report.specs.Faults.{disk_line, memory_line}
use Rattle.ov_machine.specs.Disks.{Holds, StandsForPlain}
use Rattle.ov_machine.specs.Machine.{AreMasters, MachineGoesOn, KeptOn, MayLeave, StandsFor}
use Rattle.ov_machine.specs.declared.fault.StepFault.{StepFault}
use Rattle.ov_machine.specs.declared.fault.StepFault.TheVariants.{Disk, Memory, Tag, Trace}
use Rattle.ov_answering.specs.Lasting.{OpensAs}
use Rattle.ov_answering.specs.Printing.{read_line}
use Rattle.ov_load.specs.LoadWords.{IsLoad}
use Rattle.ov_load.specs.Summary.{IsSummary, load_lines}
use Rattle.ov_load.specs.Tallying.{Takes, counted, counted_all, none_counted}
use Rattle.ov_load.specs.declared.load_words.Load.{Load}
use Rattle.ov_load.specs.declared.tally.Counts.{Counts}
use Rattle.ov_load.specs.declared.tally.Tally.{Tally}

-- ---- what is kept

-- the history after this many first commands of the workload
abbrev pub after_first : PlainHistory → Load → ℕ → PlainHistory
after_first h load place = after_all h (first_commands load.number place)

-- the history after all commands of the workload
abbrev pub after_load : PlainHistory → Load → PlainHistory
after_load h load = after_all h (workload load.number load.count)

-- the image stands for the history after some first commands of the workload
abbrev pub KeepsSome : Masters → PlainHistory → Load → Image → Type 0
KeepsSome k h load c =
    (place : ℕ) × (place ≤ WORKLOAD_USERS + load.count)
    × StandsForPlain k h (after_first h load place) c

-- ---- what is printed

-- How a load from this history on ends: its seven lines were put and the status is 0; or the error
-- line is the only one, on memory that was refused, the disk or the key file, with its status; or a
-- front of one of these was put, or a frame wasn't, and the status is 6.
abbrev pub EndsLoad : Load → PlainHistory → Option (List ℕ) → Option (List ℕ) → ℕ → Type 0
EndsLoad load h old new status =
    EndsOr (load_lines load h) 0 old new status
    ⊎ (EndsIn disk_line 4 old new status ⊎ EndsIn read_line 5 old new status)

-- The lines of a load whose replies were tallied so were put, or a front of them; or the one that
-- says that memory was refused for them.
abbrev pub PutsSummary : Load → Tally → ℕ → Option (List ℕ) → Option (List ℕ) → ℕ → Type 0
PutsSummary load tally epoch old new status =
    ((text : List ℕ) × IsSummary load tally epoch text × EndsIn text 0 old new status)
    ⊎ EndsIn memory_line 7 old new status

-- where no count of faults rose the load was answered to its end, but for memory that was refused
abbrev pub IsComplete : ℕ → Type 0 → Type 0 → Type 0 → Type 0
IsComplete status keys out disk =
    (keys → ⊥) → (out → ⊥) → (disk → ⊥) → (status ≡ 0) ⊎ (status ≡ 7)

-- the status isn't one that a script decides, of a bad line or of its length
abbrev pub IsOfNoScript : ℕ → Type 0
IsOfNoScript status = (status ≡ 3 → ⊥) × (status ≡ 11 → ⊥)

-- ---- commands

-- one reply was counted
abbrev pub OneMore : Counts → Counts → Type 0
OneMore old new = (reply : Reply) × (new ≡ counted old reply)

module _ {D : Type 0} (tells : DiskTells D) where
  -- One command at a history for which what is kept stands. Its reply was tallied, and all goes on
  -- as the history does. Or it wasn't, and of what a crash leaves it isn't said whether it is from
  -- before the command.
  abbrev pub TalliesAt : {T : Type 0} → Masters → PlainHistory → Command → Tally → Tally
      → KeptOn D → KeptOn D → Result T StepFault → Type 0
  TalliesAt k h command before now first last (Ok done) =
      Takes before (reply_to h command) (reply_line (reply_to h command)) now
      × MachineGoesOn tells k h command first last
  TalliesAt k h command before now first last (Err Disk) =
      MayLeave tells k h command first.disk last.disk
  TalliesAt k h command before now first last (Err Trace) =
      MayLeave tells k h command first.disk last.disk
  TalliesAt k h command before now first last (Err Memory) =
      MayLeave tells k h command first.disk last.disk
  TalliesAt k h command before now first last (Err (Tag bad)) = ⊥

  -- This many first commands of the workload were answered, and their replies tallied.
  pub record LoadedTo (k : Masters) (h : PlainHistory) (load : Load) (place : ℕ) (tally : Tally)
      (first last : KeptOn D) : Type 0 where
    pub counts : tally.counts
        ≡ counted_all none_counted h (first_commands load.number place)
    pub hashed : Holds256 tally.hasher (lines h (first_commands load.number place))
    pub stands : StandsFor last.kept (after_first h load place)
    pub holds : Holds tells k h h first.disk → Holds tells k h (after_first h load place) last.disk
    pub moments : Holds tells k h h first.disk
        → LeavesOnly tells first.disk last.disk (KeepsSome k h load)

  -- all commands of the workload were answered and their replies tallied; or a crash leaves the
  -- history after some of them; a wrong tag is never found
  abbrev pub Loads : Masters → PlainHistory → Load → KeptOn D → KeptOn D
      → Result Tally StepFault → Type 0
  Loads k h load first last (Ok tally) =
      LoadedTo k h load (WORKLOAD_USERS + load.count) tally first last
  Loads k h load first last (Err Disk) =
      Holds tells k h h first.disk → LeavesOnly tells first.disk last.disk (KeepsSome k h load)
  Loads k h load first last (Err Trace) =
      Holds tells k h h first.disk → LeavesOnly tells first.disk last.disk (KeepsSome k h load)
  Loads k h load first last (Err Memory) =
      Holds tells k h h first.disk → LeavesOnly tells first.disk last.disk (KeepsSome k h load)
  Loads k h load first last (Err (Tag bad)) = ⊥

-- This holds of the load that the words ask for, under the masters of the key file, for each
-- history as which the disk opens for them.
abbrev pub ForLoad : {D : Type 0} → DiskTells D → D → List (String Global) → Option (List ℕ)
    → (Masters → PlainHistory → Load → Type 0) → Type 0
ForLoad tells disk words keys P =
    (load : Load) → IsLoad load words → IfSome keys (λ file. (k : Masters) (h : PlainHistory)
    → AreMasters file k → OpensAs tells k load.mode h disk → P k h load)

-- this holds of the load that the words ask for, under the masters of the key file, for the image
-- that the disk reads
abbrev pub ForLoadImage : Option Image → List (String Global) → Option (List ℕ)
    → (Masters → Mode → Image → Type 0) → Type 0
ForLoadImage image words keys P =
    (load : Load) → IsLoad load words → IfSome keys (λ file.
    (k : Masters) → AreMasters file k → Told image (P k load.mode))

-- what a load promises where the disk opens: the lines that it prints, its status, the frames that
-- it sends, what a stop leaves at any moment, and what lasts at status 0
pub record LoadsWell (Lines Status Frames Stops Lasts : Type 0) : Type 0 where
  pub printed : Lines
  pub complete : Status
  pub traced : Frames
  pub survives : Stops
  pub lasts : Lasts
