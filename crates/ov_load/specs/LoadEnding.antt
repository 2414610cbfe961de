-- How a load ends: what it prints and sends, and what a stop leaves.
use Rattle.std.specs.Prelude.{◌≡◌, ◌⊎◌, ℕ, suc, ◌+◌, ◌<◌, ◌≤◌, List, [], ◌∷◌, ◌++◌}
use Rattle.std.specs.Prelude.{Option, Result, Ok, Err}
use Rattle.std.specs.Io.KnownBytes.{Appends}
use Rattle.ov_disk.specs.Disk.{Image}
use Rattle.ov_disk.specs.Moments.{LeavesOnly}
use Rattle.ov_disk.specs.Tells.{DiskTells}
use Rattle.ov_script.specs.Workload.{command_at, first_commands, workload}
use Rattle.ov_script.specs.declared.command.Command.TheVariants.{Epoch as AskEpoch}
use Rattle.ov_script.specs.declared.drawn.TheConstants.{WORKLOAD_USERS}
use Rattle.ov_history.specs.Masters.{Masters}
use Rattle.ov_history.specs.Plain.{PlainHistory}
use Rattle.ov_transcript.specs.Transcripts.{IsTranscriptFront, Transcribed, Transcripts}
use Rattle.ov_machine.specs.Disks.{StandsForPlain}
use Rattle.ov_machine.specs.declared.fault.StepFault.{StepFault}
use Rattle.ov_answering.specs.Lasting.{LastsAs}
use Rattle.ov_answering.specs.Tracing.{TranscribesAll}
use Rattle.ov_load.specs.Loading.{EndsLoad, KeepsSome, after_first, after_load}
use Rattle.ov_load.specs.declared.load_words.Load.{Load}
use Rattle.ov_load.specs.declared.tally.Tally.{Tally}

-- the image stands for the history after this many first commands of the workload, or after one
-- more, where the load has one more
abbrev pub KeepsAt : Masters → PlainHistory → Load → ℕ → Image → Type 0
KeepsAt k h load place c =
    StandsForPlain k h (after_first h load place) c
    ⊎ ((place < WORKLOAD_USERS + load.count)
    × StandsForPlain k h (after_first h load (suc place)) c)

-- a front of what is asked and replied for the command behind this many, or for the end of the load
abbrev pub IsFrontAt : Masters → PlainHistory → Load → ℕ → List ℕ → Type 0
IsFrontAt k h load place bytes =
    ((place < WORKLOAD_USERS + load.count)
    × IsTranscriptFront k (after_first h load place) (command_at load.number place) bytes)
    ⊎ ((place ≡ WORKLOAD_USERS + load.count)
    × IsTranscriptFront k (after_first h load place) AskEpoch bytes)

-- where these bytes are the whole transcript of the command behind this many, the image stands for
-- the history with that command too
abbrev pub IsMadeAt : Masters → PlainHistory → Load → ℕ → List ℕ → Image → Type 0
IsMadeAt k h load place bytes c =
    place < WORKLOAD_USERS + load.count
    → Transcribed k (after_first h load place) (command_at load.number place) bytes
    → StandsForPlain k h (after_first h load (suc place)) c

-- The transcripts of this many first commands were put, and perhaps a front of what comes next; and
-- where this holds of the disk from before, each image that a crash may leave of it now stands for
-- the history after these commands, or after one more: after one more, where the front is all of
-- that one's transcript.
pub record TracedTo {D : Type 0} (tells : DiskTells D) (k : Masters) (h : PlainHistory)
    (load : Load) (last : D) (old new : Option (List ℕ)) (holds : Type 0) : Type 0 where
  pub place : ℕ
  pub low : place ≤ WORKLOAD_USERS + load.count
  pub bytes : List ℕ
  pub more : List ℕ
  pub transcripts : Transcripts k h (first_commands load.number place) bytes
  pub front : (more ≡ []) ⊎ IsFrontAt k h load place more
  pub put : Appends old new (bytes ++ more)
  pub leaves : holds → (c : Image) → tells.may_leave last c → KeepsAt k h load place c
  pub made : holds → (c : Image) → tells.may_leave last c → IsMadeAt k h load place more c

-- all transcripts were put, and that of the end
abbrev pub TracesWhole : Masters → PlainHistory → Load → Option (List ℕ) → Option (List ℕ) → Type 0
TracesWhole k h load old new =
    TranscribesAll k h (workload load.number load.count ++ AskEpoch ∷ []) old new

-- With status 0 all transcripts were put. Whatever the status, those of some first commands were,
-- and a stop leaves the history after these, or after one more: just that one where its transcript
-- was put whole.
pub record LoadTracesAs {D : Type 0} (tells : DiskTells D) (k : Masters) (h : PlainHistory)
    (load : Load) (last : D) (old new : Option (List ℕ)) (status : ℕ) (holds : Type 0)
    : Type 0 where
  pub whole : status ≡ 0 → TracesWhole k h load old new
  pub first : TracedTo tells k h load last old new holds

-- what was put where the answering of the workload ended so
abbrev pub TracesLoad : {D : Type 0} → DiskTells D → Masters → PlainHistory → Load → D
    → Option (List ℕ) → Option (List ℕ) → Type 0 → Result Tally StepFault → Type 0
TracesLoad tells k h load last old new holds (Ok tally) =
    TracesWhole k h load old new × TracedTo tells k h load last old new holds
TracesLoad tells k h load last old new holds (Err fault) =
    TracedTo tells k h load last old new holds

module _ {D : Type 0} (tells : DiskTells D) where
  -- how a load ends, from a disk that stands for the history where this holds
  pub record LoadEndsAs (k : Masters) (h : PlainHistory) (load : Load) (first last : D)
      (old new t_old t_new : Option (List ℕ)) (status : ℕ) (holds : Type 0) : Type 0 where
    pub printed : EndsLoad load h old new status
    pub traced : LoadTracesAs tells k h load last t_old t_new status holds
    pub survives : holds → LeavesOnly tells first last (KeepsSome k h load)
    pub lasts : holds → status ≡ 0 → LastsAs tells k h (after_load h load) last
