-- What is put to the sink of frames: the transcripts of the commands, and nothing else.
use Rattle.std.specs.Prelude.{◌≡◌, ◌⊎◌, ℕ, List, [], ◌∷◌, ◌++◌, take}
use Rattle.std.specs.Prelude.{Option, Some, None}
use Rattle.std.specs.Io.KnownBytes.{Appends, Keeps}
use Rattle.ov_base.specs.declared.limits.TheConstants.{MAX_SCRIPT_BYTES}
use Rattle.ov_script.specs.declared.command.Command.{Command}
use Rattle.ov_script.specs.declared.command.Command.TheVariants.{Epoch as AskEpoch}
use Rattle.ov_script.specs.Lines.{reply_line}
use Rattle.ov_script.specs.Reading.{IsScript, BeginsScript, BeginsWith}
use Rattle.ov_script.specs.Reading.{Ending, AtEnd, BadAt, TooLong}
use Rattle.ov_history.specs.Masters.{Masters}
use Rattle.ov_history.specs.Plain.{PlainHistory}
use Rattle.ov_model.specs.Lines.{lines}
use Rattle.ov_model.specs.Step.{after_all, reply_to}
use Rattle.ov_transcript.specs.Transcripts.{IsTranscriptFront, Transcripts}
use Rattle.ov_machine.specs.Frames.{Transcribes, TranscribesFront}
use Rattle.ov_machine.specs.Machine.{Kept, StandsFor}
use Rattle.ov_answering.specs.Lasting.{HasAnswered}
use Rattle.ov_answering.specs.declared.answer.Stop.{Stop}
use Rattle.ov_answering.specs.declared.answer.Stop.TheVariants.{End, BadLine, Long, Read, Write}
use Rattle.ov_answering.specs.declared.answer.Stop.TheVariants.{Disk, Trace, Memory, Tag}

-- ---- one command

-- The transcript was put, and then the command's line or a front of that. Or a front of the
-- transcript was put, and no line.
abbrev pub TracesLine : Masters → PlainHistory → Command → Option Stop
    → Option (List ℕ) → Option (List ℕ) → Option (List ℕ) → Option (List ℕ) → Type 0
TracesLine k p command None old new t_old t_new =
    Appends old new (reply_line (reply_to p command)) × Transcribes k p command t_old t_new
TracesLine k p command (Some Write) old new t_old t_new =
    ((n : ℕ) × Appends old new (take n (reply_line (reply_to p command))))
    × Transcribes k p command t_old t_new
TracesLine k p command (Some Disk) old new t_old t_new =
    Keeps old new × TranscribesFront k p command t_old t_new
TracesLine k p command (Some Trace) old new t_old t_new =
    Keeps old new × TranscribesFront k p command t_old t_new
TracesLine k p command (Some Memory) old new t_old t_new =
    Keeps old new × TranscribesFront k p command t_old t_new
TracesLine k p command (Some (Tag bad)) old new t_old t_new =
    Keeps old new × TranscribesFront k p command t_old t_new
TracesLine k p command (Some End) old new t_old t_new = ⊥
TracesLine k p command (Some (BadLine n)) old new t_old t_new = ⊥
TracesLine k p command (Some Long) old new t_old t_new = ⊥
TracesLine k p command (Some Read) old new t_old t_new = ⊥

-- ---- commands

-- the transcripts of these commands were put
abbrev pub TranscribesAll : Masters → PlainHistory → List Command → Option (List ℕ)
    → Option (List ℕ) → Type 0
TranscribesAll k p commands old new =
    (bytes : List ℕ) × Transcripts k p commands bytes × Appends old new bytes

-- This is a front of what is asked and replied for what comes behind these commands: the next
-- command of the script, or its end, at which the epoch is asked for.
abbrev pub IsNextFront : Masters → PlainHistory → List ℕ → List Command → List ℕ → Type 0
IsNextFront k p text commands bytes =
    (next : Command)
    × (BeginsScript text (commands ++ next ∷ [])
    ⊎ ((next ≡ AskEpoch) × IsScript text commands AtEnd))
    × IsTranscriptFront k (after_all p commands) next bytes

-- the transcripts of these commands were put, and perhaps a front of what comes next
abbrev pub TranscribesFirst : Masters → PlainHistory → List ℕ → List Command → Option (List ℕ)
    → Option (List ℕ) → Type 0
TranscribesFirst k p text commands old new =
    (bytes : List ℕ) × (more : List ℕ) × Transcripts k p commands bytes
    × ((more ≡ []) ⊎ IsNextFront k p text commands more) × Appends old new (bytes ++ more)

-- what a script that was read to this ending has asked: behind its last command, the epoch
abbrev pub asked_by : List Command → Ending → List Command
asked_by commands AtEnd = commands ++ AskEpoch ∷ []
asked_by commands (BadAt n) = commands
asked_by commands TooLong = commands

-- What a run over this script puts to the sink of frames. With 0 it is the transcripts of the whole
-- script's commands and of its end, and with 3 and 11 those of the commands before what ended it.
-- Whatever the status, it is the transcripts of the commands whose lines were put whole, and a
-- front of what comes next.
pub record TracesAs (k : Masters) (p : PlainHistory) (text : List ℕ) (status : ℕ)
    (old new t_old t_new : Option (List ℕ)) : Type 0 where
  pub whole : (status ≡ 0) ⊎ ((status ≡ 3) ⊎ (status ≡ 11))
      → (commands : List Command) × (ending : Ending) × IsScript text commands ending
      × TranscribesAll k p (asked_by commands ending) t_old t_new
  pub first : (commands : List Command) × BeginsScript text commands
      × HasAnswered p text commands old new × TranscribesFirst k p text commands t_old t_new

-- ---- the loop over a script

-- the script was read to this ending, and all its lines and transcripts were put
pub record TracedAll (k : Masters) (p : PlainHistory) (text : List ℕ) (ending : Ending)
    (old new t_old t_new : Option (List ℕ)) : Type 0 where
  pub commands : List Command
  pub read : IsScript text commands ending
  pub put : Appends old new (lines p commands)
  pub traced : TranscribesAll k p (asked_by commands ending) t_old t_new

-- the lines and transcripts of the first commands were put, and a front of what comes next
pub record TracedFirst (k : Masters) (p : PlainHistory) (text : List ℕ)
    (old new t_old t_new : Option (List ℕ)) : Type 0 where
  pub commands : List Command
  pub begins : BeginsScript text commands
  pub put : Appends old new (lines p commands)
  pub traced : TranscribesFirst k p text commands t_old t_new

-- The lines and transcripts of the first commands were put, then the transcript of the next command
-- and a front of its line.
pub record TracedPart (k : Masters) (p : PlainHistory) (text : List ℕ)
    (old new t_old t_new : Option (List ℕ)) : Type 0 where
  pub commands : List Command
  pub next : Command
  pub begins : BeginsScript text commands
  pub begins_next : BeginsScript text (commands ++ next ∷ [])
  pub count : ℕ
  pub put : Appends old new
      (lines p commands ++ take count (reply_line (reply_to (after_all p commands) next)))
  pub traced : TranscribesAll k p (commands ++ next ∷ []) t_old t_new

-- what was put to both sinks where the answering stopped so
abbrev pub TracesTo : Masters → PlainHistory → List ℕ → Stop
    → Option (List ℕ) → Option (List ℕ) → Option (List ℕ) → Option (List ℕ) → Type 0
TracesTo k p text End old new t_old t_new = TracedAll k p text AtEnd old new t_old t_new
TracesTo k p text (BadLine n) old new t_old t_new = TracedAll k p text (BadAt n) old new t_old t_new
TracesTo k p text Long old new t_old t_new = TracedAll k p text TooLong old new t_old t_new
TracesTo k p text Write old new t_old t_new = TracedPart k p text old new t_old t_new
TracesTo k p text Read old new t_old t_new = TracedFirst k p text old new t_old t_new
TracesTo k p text Disk old new t_old t_new = TracedFirst k p text old new t_old t_new
TracesTo k p text Trace old new t_old t_new = TracedFirst k p text old new t_old t_new
TracesTo k p text Memory old new t_old t_new = TracedFirst k p text old new t_old t_new
TracesTo k p text (Tag bad) old new t_old t_new = TracedFirst k p text old new t_old t_new

-- Up to here these commands were read and answered, and what is kept stands for the history after
-- them; this line, room and rest are left.
pub record TracedSoFar (k : Masters) (p : PlainHistory) (text rest : List ℕ) (line room : ℕ)
    (kept : Kept) (old now t_old t_now : Option (List ℕ)) : Type 0 where
  pub commands : List Command
  pub begins : BeginsWith 1 MAX_SCRIPT_BYTES text commands line room rest
  pub stands : StandsFor kept (after_all p commands)
  pub put : Appends old now (lines p commands)
  pub traced : TranscribesAll k p commands t_old t_now

-- some first commands were read, answered and put to the trace, and the rest that is left is told
abbrev pub TracesSoFar : Masters → PlainHistory → List ℕ → Option (List ℕ) → ℕ → ℕ → Kept
    → Option (List ℕ) → Option (List ℕ) → Option (List ℕ) → Option (List ℕ) → Type 0
TracesSoFar k p text None line room kept old now t_old t_now = ⊥
TracesSoFar k p text (Some rest) line room kept old now t_old t_now =
    TracedSoFar k p text rest line room kept old now t_old t_now
