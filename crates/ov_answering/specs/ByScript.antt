-- How an answering ends by what its script says, whatever its disk tells.
use Rattle.std.specs.Prelude.{◌≡◌, ℕ, List, [], ◌∷◌, ◌++◌, length, take, Option, Some, None}
use Rattle.std.specs.Io.KnownBytes.{Appends, Keeps}
use Rattle.ov_script.specs.declared.command.Command.{Command}
use Rattle.ov_script.specs.declared.command.Command.TheVariants.{Read as AskRead}
use Rattle.ov_script.specs.declared.reply.Reply.{Reply}
use Rattle.ov_script.specs.declared.reply.Reply.TheVariants.{End as EndReply}
use Rattle.ov_script.specs.Lines.{reply_line}
use Rattle.ov_script.specs.Reading.{IsScript, BeginsScript, Ending, AtEnd, BadAt, TooLong}
use Rattle.ov_report.specs.Faults.{disk_line, memory_line}
use Rattle.ov_machine.specs.Machine.{AreOtherTags}
use Rattle.ov_machine.specs.Steps.{IsReadOf}
use Rattle.ov_machine.specs.declared.fault.BadTag.{BadTag}
use Rattle.ov_answering.specs.Faults.{tag_line}
use Rattle.ov_answering.specs.Printing.{bad_line, long_line, read_line}
use Rattle.ov_answering.specs.declared.answer.Stop.{Stop}
use Rattle.ov_answering.specs.declared.answer.Stop.TheVariants.{End, BadLine, Long, Read, Write}
use Rattle.ov_answering.specs.declared.answer.Stop.TheVariants.{Disk, Trace, Memory, Tag}

-- ---- lines

-- the reply lines of these replies, in turn
abbrev pub reply_lines : List Reply → List ℕ
reply_lines [] = []
reply_lines (reply ∷ replies) = reply_line reply ++ reply_lines replies

-- a reply line was put for each of these commands, whatever it says, and then this
abbrev pub PutsFor : List Command → List ℕ → Option (List ℕ) → Option (List ℕ) → Type 0
PutsFor commands last old new =
    (replies : List Reply) × (length replies ≡ length commands)
    × Appends old new (reply_lines replies ++ last)

-- ---- where the script stands

-- the whole script is some commands and its reading ends so; for each of them a reply line was put,
-- and then this
abbrev pub EndsAt : List ℕ → Ending → List ℕ → Option (List ℕ) → Option (List ℕ) → Type 0
EndsAt text ending last old new =
    (commands : List Command) × IsScript text commands ending × PutsFor commands last old new

-- the script begins with some commands; for each of them a reply line was put, and then this
abbrev pub EndsAmid : List ℕ → List ℕ → Option (List ℕ) → Option (List ℕ) → Type 0
EndsAmid text last old new =
    (commands : List Command) × BeginsScript text commands × PutsFor commands last old new

-- the script begins with some commands and a read of this file; for each of the commands before the
-- read a reply line was put, and then this
abbrev pub EndsAtRead : List ℕ → List ℕ → List ℕ → Option (List ℕ) → Option (List ℕ) → Type 0
EndsAtRead text file last old new =
    (commands : List Command) × (user : List ℕ)
    × BeginsScript text (commands ++ AskRead user file ∷ []) × PutsFor commands last old new

-- ---- how a run ends

-- What the script says of the end of a run over it, also where the disk tells nothing. With 0 its
-- reading ends behind its last command, with 3 at a bad item on the line that is named, and with 11
-- at the limit: for each command before that a reply line was put, and then the last line, which
-- says so. With 12 the command behind those that were replied to is a read of the file that the
-- last line names, whose two tags differ. With 4, 5 and 7 some first commands were replied to.
pub record EndsByScript (text : List ℕ) (status : ℕ) (old new : Option (List ℕ)) : Type 0 where
  pub done : status ≡ 0 → (epoch : ℕ) × EndsAt text AtEnd (reply_line (EndReply epoch)) old new
  pub bad_line : status ≡ 3 → (n : ℕ) × EndsAt text (BadAt n) (bad_line n) old new
  pub long : status ≡ 11 → EndsAt text TooLong long_line old new
  pub tag : status ≡ 12 → (bad : BadTag) × AreOtherTags bad
      × EndsAtRead text bad.file (tag_line bad) old new
  pub disk : status ≡ 4 → EndsAmid text disk_line old new
  pub read : status ≡ 5 → EndsAmid text read_line old new
  pub memory : status ≡ 7 → EndsAmid text memory_line old new

-- ---- the loop over a script

-- A reply line was put for the command, or a front of it. Or none was: a wrong tag is that of the
-- file which the command reads.
abbrev pub PutsReply : Command → Option Stop → Option (List ℕ) → Option (List ℕ) → Type 0
PutsReply command None old new = (reply : Reply) × Appends old new (reply_line reply)
PutsReply command (Some Write) old new =
    (reply : Reply) × (n : ℕ) × Appends old new (take n (reply_line reply))
PutsReply command (Some Disk) old new = Keeps old new
PutsReply command (Some Trace) old new = Keeps old new
PutsReply command (Some Memory) old new = Keeps old new
PutsReply command (Some (Tag bad)) old new = IsReadOf bad.file command × Keeps old new
PutsReply command (Some End) old new = ⊥
PutsReply command (Some (BadLine n)) old new = ⊥
PutsReply command (Some Long) old new = ⊥
PutsReply command (Some Read) old new = ⊥

-- where the script stands as the answering stops so, and what was put before the last line
abbrev pub StopsByScript : List ℕ → Stop → Option (List ℕ) → Option (List ℕ) → Type 0
StopsByScript text End old new = EndsAt text AtEnd [] old new
StopsByScript text (BadLine n) old new = EndsAt text (BadAt n) [] old new
StopsByScript text Long old new = EndsAt text TooLong [] old new
StopsByScript text (Tag bad) old new = EndsAtRead text bad.file [] old new
StopsByScript text Read old new = EndsAmid text [] old new
StopsByScript text Disk old new = EndsAmid text [] old new
StopsByScript text Trace old new = EndsAmid text [] old new
StopsByScript text Memory old new = EndsAmid text [] old new
StopsByScript text Write old new = Unit {0}
