-- What a question to the owner's book puts to standard output, and its status.
use Rattle.std.specs.Prelude.{◌⊎◌, ℕ, List, Option, Ok, Err, codes}
use Rattle.ov_acts.specs.Printing.{Puts, PutsNone}
use Rattle.ov_script.specs.Lines.{reply_line}
use Rattle.ov_script.specs.declared.reply.Reply.TheVariants.{Refused as RefusedReply}
use Rattle.ov_consulting.specs.Endings.{End, stop_code}
use Rattle.ov_consulting.specs.declared.stop.BookStop.{BookStop}
use Rattle.ov_consulting.specs.declared.stop.BookStop.TheVariants as stops

-- what is put where there is no answer for this reason: its line, and the status; or nothing, where
-- it has no line, or where memory was refused for the line, which has a status of its own
abbrev pub PutsStop : BookStop → Option (List ℕ) → Option (List ℕ) → ℕ → Type 0
PutsStop (stops.Refused why) old new status =
    Puts (reply_line (RefusedReply why)) 3 old new status ⊎ PutsNone 7 old new status
PutsStop stops.Disk old new status = Puts (codes "error disk\n") 17 old new status
PutsStop stops.NoBook old new status = Puts (codes "error book\n") 18 old new status
PutsStop stop old new status = PutsNone (stop_code stop) old new status

-- what is put of an end: the bytes of its answer, or what is put without one
abbrev pub PutsEnd : End → Option (List ℕ) → Option (List ℕ) → ℕ → Type 0
PutsEnd (Ok bytes) old new status = Puts bytes 0 old new status
PutsEnd (Err stop) old new status = PutsStop stop old new status
