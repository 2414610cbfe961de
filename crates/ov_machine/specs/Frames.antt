-- What a command puts to the sink of frames: its transcript, or a front of it.
use Rattle.std.specs.Prelude.{ℕ, List}
use Rattle.std.specs.Prelude.{Option, Result, Ok, Err}
use Rattle.std.specs.Io.KnownBytes.{Appends}
use Rattle.ov_disk.specs.Tells.{DiskTells}
use Rattle.ov_script.specs.declared.command.Command.{Command}
use Rattle.ov_history.specs.Masters.{Masters}
use Rattle.ov_history.specs.Plain.{PlainHistory}
use Rattle.ov_transcript.specs.Transcripts.{IsTranscriptFront, Transcribed}
use Rattle.ov_machine.specs.Disks.{HasMade}
use Rattle.ov_machine.specs.Machine.{KeptOn, StandsFor}
use Rattle.ov_machine.specs.declared.fault.StepFault.{StepFault}

-- the transcript of the command was put
abbrev pub Transcribes : Masters → PlainHistory → Command → Option (List ℕ) → Option (List ℕ)
    → Type 0
Transcribes k p command old new =
    (bytes : List ℕ) × Transcribed k p command bytes × Appends old new bytes

-- a front was put of what is asked and replied for the command
abbrev pub TranscribesFront : Masters → PlainHistory → Command → Option (List ℕ)
    → Option (List ℕ) → Type 0
TranscribesFront k p command old new =
    (bytes : List ℕ) × IsTranscriptFront k p command bytes × Appends old new bytes

-- A front was put of what is asked and replied for the command; and where it is all of that, this
-- holds.
abbrev pub BreaksOff : Masters → PlainHistory → Command → Type 0 → Option (List ℕ)
    → Option (List ℕ) → Type 0
BreaksOff k p command Made old new =
    (bytes : List ℕ) × IsTranscriptFront k p command bytes
    × (Transcribed k p command bytes → Made) × Appends old new bytes

-- The transcript was put, where the command was answered. Where a fault ended it a front was; and
-- this holds where the front is all of it.
abbrev pub TracesAt : {T : Type 0} → Masters → PlainHistory → Command → Type 0
    → Option (List ℕ) → Option (List ℕ) → Result T StepFault → Type 0
TracesAt k p command Made old new (Ok answered) = Transcribes k p command old new
TracesAt k p command Made old new (Err fault) = BreaksOff k p command Made old new

-- What was put to the trace, at whatever history is kept: the transcript of the command, or a front
-- of it where a fault ended the command. Where such a front is the whole transcript, the disk has
-- the command made.
abbrev pub Traces : {D T : Type 0} → DiskTells D → Command → KeptOn D → KeptOn D
    → Option (List ℕ) → Option (List ℕ) → Result T StepFault → Type 0
Traces tells command old new t_old t_new result =
    (p : PlainHistory) → StandsFor old.kept p
    → TracesAt old.kept.masters p command
    (HasMade tells old.kept.masters p command old.disk new.disk) t_old t_new result
