-- What answering a script does, command by command.
use Rattle.std.specs.Prelude.{◌≡◌, ℕ, List, [], ◌∷◌, ◌++◌, take}
use Rattle.std.specs.Prelude.{Option, Some, None, IfNone, false}
use Rattle.std.specs.Io.KnownBytes.{Appends, Keeps}
use Rattle.ov_base.specs.declared.limits.TheConstants.{MAX_SCRIPT_BYTES}
use Rattle.ov_disk.specs.Calls.{IsDiskCall}
use Rattle.ov_disk.specs.Disk.{Image}
use Rattle.ov_disk.specs.Moments.{LeavesOnly}
use Rattle.ov_disk.specs.Tells.{DiskTells}
use Rattle.ov_script.specs.declared.command.Command.{Command}
use Rattle.ov_script.specs.declared.reply.Reply.TheVariants.{End as EndReply}
use Rattle.ov_script.specs.Lines.{reply_line}
use Rattle.ov_script.specs.Reading.{IsScript, BeginsScript, BeginsWith}
use Rattle.ov_script.specs.Reading.{Ending, AtEnd, BadAt, TooLong}
use Rattle.ov_history.specs.Plain.{PlainHistory}
use Rattle.ov_model.specs.Lines.{lines}
use Rattle.ov_model.specs.Step.{reply_to, after_all}
use Rattle.ov_history.specs.Masters.{Masters}
use Rattle.ov_report.specs.Ends.{EndsIn, EndsOr}
use Rattle.ov_report.specs.Faults.{disk_line, memory_line}
use Rattle.ov_machine.specs.Disks.{Holds}
use Rattle.ov_machine.specs.Machine.{AreOtherTags, MachineGoesOn, Kept, KeptOn, MayLeave, StandsFor}
use Rattle.ov_machine.specs.declared.fault.BadTag.{BadTag}
use Rattle.ov_machine.specs.declared.fault.StepFault.{StepFault}
use Rattle.ov_machine.specs.declared.fault.StepFault.TheVariants.{Disk as NoDisk}
use Rattle.ov_machine.specs.declared.fault.StepFault.TheVariants.{Memory as NoMemory}
use Rattle.ov_machine.specs.declared.fault.StepFault.TheVariants.{Tag as WrongTag, Trace as NoTrace}
use Rattle.ov_answering.specs.Faults.{tag_line}
use Rattle.ov_answering.specs.Lasting.{KeepsFirst, KeepsNext}
use Rattle.ov_answering.specs.Printing.{bad_line, long_line, read_line}
use Rattle.ov_answering.specs.declared.answer.Stop.{Stop}
use Rattle.ov_answering.specs.declared.answer.Stop.TheVariants.{End, BadLine, Long, Read, Write}
use Rattle.ov_answering.specs.declared.answer.Stop.TheVariants.{Disk, Trace, Memory, Tag}

-- ---- lines

-- all the bytes were put, or a write stopped inside them, or memory was refused and nothing was put
abbrev pub PutsOr : Option Stop → Option (List ℕ) → Option (List ℕ) → List ℕ → Type 0
PutsOr None old new bytes = Appends old new bytes
PutsOr (Some Write) old new bytes = (n : ℕ) × Appends old new (take n bytes)
PutsOr (Some Memory) old new bytes = Keeps old new
PutsOr (Some End) old new bytes = ⊥
PutsOr (Some (BadLine n)) old new bytes = ⊥
PutsOr (Some Long) old new bytes = ⊥
PutsOr (Some Read) old new bytes = ⊥
PutsOr (Some Disk) old new bytes = ⊥
PutsOr (Some Trace) old new bytes = ⊥
PutsOr (Some (Tag bad)) old new bytes = ⊥

-- what was put ends in the line on a file whose tag is another one
abbrev pub SaysTag : Option (List ℕ) → Option (List ℕ) → Type 0
SaysTag old new =
    (bad : BadTag) × AreOtherTags bad
    × ((before : List ℕ) × Appends old new (before ++ tag_line bad))

-- two tags differ, and what was kept at the start stands for no history
abbrev pub FindsTag : Kept → BadTag → Type 0
FindsTag kept bad = AreOtherTags bad × ((p : PlainHistory) → StandsFor kept p → ⊥)

-- the last line that is put at this epoch, or the one that says that memory was refused for it
abbrev pub Finishes : Stop → ℕ → Option (List ℕ) → Option (List ℕ) → ℕ → Type 0
Finishes End epoch old new status = EndsOr (reply_line (EndReply epoch)) 0 old new status
Finishes (BadLine n) epoch old new status = EndsOr (bad_line n) 3 old new status
Finishes Long epoch old new status = EndsIn long_line 11 old new status
Finishes Read epoch old new status = EndsIn read_line 5 old new status
Finishes Disk epoch old new status = EndsIn disk_line 4 old new status
Finishes Memory epoch old new status = EndsIn memory_line 7 old new status
Finishes (Tag bad) epoch old new status = EndsOr (tag_line bad) 12 old new status
Finishes Write epoch old new status = (status ≡ 6) × Keeps old new
Finishes Trace epoch old new status = (status ≡ 6) × Keeps old new

-- ---- commands

-- why a command that isn't answered stops the answering
abbrev pub stop_for : StepFault → Stop
stop_for NoDisk = Disk
stop_for NoTrace = Trace
stop_for NoMemory = Memory
stop_for (WrongTag bad) = Tag bad

-- An answer keeps the masters and is a call on the disk, at which it stops only where that failed.
-- Where it doesn't stop, the store hasn't failed. It stops in no read, and for a tag only where two
-- differ.
pub record IsAnswer {D : Type 0} (tells : DiskTells D) (old new : KeptOn D) (result : Option Stop)
    : Type 0 where
  pub masters : new.kept.masters ≡ old.kept.masters
  pub call : IsDiskCall tells (result ≡ Some Disk) old.disk new.disk
  pub sound : IfNone result (new.failed ≡ false)
  pub no_read : result ≡ Some Read → ⊥
  pub tag : (bad : BadTag) → result ≡ Some (Tag bad) → AreOtherTags bad

-- The answering of a script is calls on the disk, at which it stopped only where one failed. It
-- stopped for a tag only where two differ, and what was kept at the start stands for no history.
pub record StopsAt {D : Type 0} (tells : DiskTells D) (old new : KeptOn D) (stop : Stop)
    : Type 0 where
  pub call : IsDiskCall tells (stop ≡ Disk) old.disk new.disk
  pub tag : (bad : BadTag) → stop ≡ Tag bad → FindsTag old.kept bad

module _ {D : Type 0} (tells : DiskTells D) where
  -- One command at a history for which what is kept stands. Its reply line was put, or a front of
  -- it, and all goes on as the history does. Or the line wasn't put, and of what a crash leaves it
  -- isn't said whether it is from before the command.
  abbrev pub Answers : Masters → PlainHistory → Command → Option Stop
      → Option (List ℕ) → Option (List ℕ) → KeptOn D → KeptOn D → Type 0
  Answers k p command None old new first last =
      Appends old new (reply_line (reply_to p command))
      × MachineGoesOn tells k p command first last
  Answers k p command (Some Write) old new first last =
      ((n : ℕ) × Appends old new (take n (reply_line (reply_to p command))))
      × MachineGoesOn tells k p command first last
  Answers k p command (Some Memory) old new first last =
      Keeps old new × MayLeave tells k p command first.disk last.disk
  Answers k p command (Some Disk) old new first last =
      Keeps old new × MayLeave tells k p command first.disk last.disk
  Answers k p command (Some Trace) old new first last =
      Keeps old new × MayLeave tells k p command first.disk last.disk
  Answers k p command (Some End) old new first last = ⊥
  Answers k p command (Some (BadLine n)) old new first last = ⊥
  Answers k p command (Some Long) old new first last = ⊥
  Answers k p command (Some Read) old new first last = ⊥
  Answers k p command (Some (Tag bad)) old new first last = ⊥

  -- ---- scripts

  -- From a disk that holds the history p, on which the script was answered so far: it holds the
  -- history q, and a crash at any moment leaves the history after some first commands.
  pub record Reaches (k : Masters) (p q : PlainHistory) (text : List ℕ) (first last : D)
      : Type 0 where
    pub holds : Holds tells k p q last
    pub moments : LeavesOnly tells first last (KeepsFirst k p text)

  -- The answering of a script stopped behind these commands, of which the next one may have been
  -- made. A crash at any moment leaves the history after some first commands; at the end it leaves
  -- the one after these commands or after the next.
  pub record Stopped (k : Masters) (p : PlainHistory) (text : List ℕ) (commands : List Command)
      (first last : D) : Type 0 where
    pub now : (c : Image) → tells.may_leave last c → KeepsNext k p text commands c
    pub moments : LeavesOnly tells first last (KeepsFirst k p text)

  -- these commands were read to this ending, and all their lines were put
  pub record AnsweredAll (k : Masters) (p : PlainHistory) (text : List ℕ) (ending : Ending)
      (old new : Option (List ℕ)) (first last : KeptOn D) : Type 0 where
    pub commands : List Command
    pub read : IsScript text commands ending
    pub put : Appends old new (lines p commands)
    pub stands : StandsFor last.kept (after_all p commands)
    pub reaches : Holds tells k p p first.disk
        → Reaches k p (after_all p commands) text first.disk last.disk

  -- the lines of the first commands were put
  pub record AnsweredFirst (k : Masters) (p : PlainHistory) (text : List ℕ)
      (old new : Option (List ℕ)) (first last : KeptOn D) : Type 0 where
    pub commands : List Command
    pub begins : BeginsScript text commands
    pub put : Appends old new (lines p commands)
    pub stopped : Holds tells k p p first.disk → Stopped k p text commands first.disk last.disk

  -- the lines of the first commands were put, and a front of that of the next one
  pub record AnsweredPart (k : Masters) (p : PlainHistory) (text : List ℕ)
      (old new : Option (List ℕ)) (first last : KeptOn D) : Type 0 where
    pub commands : List Command
    pub next : Command
    pub begins : BeginsScript text commands
    pub begins_next : BeginsScript text (commands ++ next ∷ [])
    pub count : ℕ
    pub put : Appends old new
        (lines p commands ++ take count (reply_line (reply_to (after_all p commands) next)))
    pub reaches : Holds tells k p p first.disk
        → Reaches k p (after_all p (commands ++ next ∷ [])) text first.disk last.disk

  -- what was put, and what is left, where the answering stopped so
  abbrev pub Stops : Masters → PlainHistory → List ℕ → Stop → Option (List ℕ) → Option (List ℕ)
      → KeptOn D → KeptOn D → Type 0
  Stops k p text End old new first last = AnsweredAll k p text AtEnd old new first last
  Stops k p text (BadLine n) old new first last = AnsweredAll k p text (BadAt n) old new first last
  Stops k p text Long old new first last = AnsweredAll k p text TooLong old new first last
  Stops k p text Read old new first last = AnsweredFirst k p text old new first last
  Stops k p text Disk old new first last = AnsweredFirst k p text old new first last
  Stops k p text Trace old new first last = AnsweredFirst k p text old new first last
  Stops k p text Memory old new first last = AnsweredFirst k p text old new first last
  Stops k p text Write old new first last = AnsweredPart k p text old new first last
  Stops k p text (Tag bad) old new first last = ⊥

  -- Up to here these commands were read and answered; this line, room and rest are left.
  pub record AnsweredSoFar (k : Masters) (p : PlainHistory) (text rest : List ℕ) (line room : ℕ)
      (old now : Option (List ℕ)) (first last : KeptOn D) : Type 0 where
    pub commands : List Command
    pub begins : BeginsWith 1 MAX_SCRIPT_BYTES text commands line room rest
    pub put : Appends old now (lines p commands)
    pub stands : StandsFor last.kept (after_all p commands)
    pub reaches : Holds tells k p p first.disk
        → Reaches k p (after_all p commands) text first.disk last.disk

  -- some first commands were read and answered, and the rest that is left is told
  abbrev pub SoFar : Masters → PlainHistory → List ℕ → Option (List ℕ) → ℕ → ℕ
      → Option (List ℕ) → Option (List ℕ) → KeptOn D → KeptOn D → Type 0
  SoFar k p text None line room old now first last = ⊥
  SoFar k p text (Some rest) line room old now first last =
      AnsweredSoFar k p text rest line room old now first last
