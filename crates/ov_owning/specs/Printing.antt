-- What a call by the owner's book puts to standard output, and its status.
use Rattle.std.specs.Prelude.{◌⊎◌, ℕ, List, [], ◌∷◌, ◌++◌, Option, Ok, Err, codes}
use Rattle.std.specs.Fmt.{decimal}
use Rattle.ov_acts.specs.Printing.{Puts, PutsNone}
use Rattle.ov_script.specs.Lines.{reply_line}
use Rattle.ov_script.specs.declared.reply.Reply.TheVariants.{Accepted, Refused as RefusedReply}
use Rattle.ov_owning.specs.Endings.{End, own_code}
use Rattle.ov_owning.specs.declared.stop.OwnStop.TheVariants as stops

-- the line of an end, or nothing where it has none
abbrev pub end_line : End → List ℕ
end_line (Ok epoch) = reply_line (Accepted epoch)
end_line (Err (stops.Refused why)) = reply_line (RefusedReply why)
end_line (Err (stops.Pending kept)) = codes "pending " ++ decimal kept ++ 10 ∷ []
end_line (Err (stops.Differs told kept)) =
    codes "differs " ++ decimal told ++ 32 ∷ decimal kept ++ 10 ∷ []
end_line (Err stops.Disk) = codes "error disk\n"
end_line (Err stops.NoBook) = codes "error book\n"
end_line (Err (stops.ServerRefused why)) = codes "server " ++ reply_line (RefusedReply why)
end_line (Err stop) = []

-- the exit status of an end
abbrev pub end_code : End → ℕ
end_code (Ok epoch) = 0
end_code (Err stop) = own_code stop

-- a line is put, and the status is this; or a front of it, and the status is 6; where there is no
-- line nothing is put
abbrev pub PutsLine : List ℕ → ℕ → Option (List ℕ) → Option (List ℕ) → ℕ → Type 0
PutsLine [] code old new status = PutsNone code old new status
PutsLine (byte ∷ bytes) code old new status = Puts (byte ∷ bytes) code old new status

-- What is put of an end: its line, unless memory was refused for it.
abbrev pub PutsEnd : End → Option (List ℕ) → Option (List ℕ) → ℕ → Type 0
PutsEnd end old new status =
    PutsLine (end_line end) (end_code end) old new status ⊎ PutsNone 7 old new status
