-- Transcripts and fronts of them, as they are put.
use Rattle.std.proofs.Common.{List, [], ◌++◌, ℕ, length, refl, sym, ◌∙◌, Option, Result, Ok, Err}
use Rattle.std.proofs.lemmas.List.{append-nil}
use Rattle.ov_script.specs.declared.command.Command.{Command}
use Rattle.ov_history.specs.Masters.{Masters}
use Rattle.ov_history.specs.Plain.{PlainHistory}
use Rattle.ov_transcript.specs.Transcripts.{IsTranscriptFront, Transcribed, frames}
use Rattle.ov_machine.specs.Frames.{BreaksOff, TracesAt, TranscribesFront}
use Rattle.ov_machine.specs.declared.fault.StepFault.{StepFault}
use Rattle.ov_machine.proofs.Reading.{take_whole}

-- a whole transcript is a front of one
pub whole_is_front : (k : Masters) (p : PlainHistory) (command : Command) (bytes : List ℕ) → Transcribed k p command bytes → IsTranscriptFront k p command bytes
whole_is_front k p command bytes (asks, is, same) =
    let all = frames asks ++ [] in
    (asks, [], length all, is, same ∙ sym (append-nil (frames asks)) ∙ sym (take_whole all (length all) refl))

module _ (k : Masters) (p : PlainHistory) (command : Command) (Made : Type 0) (old new : Option (List ℕ)) where
  -- what was put where a fault ended a command is a front
  pub front_of : BreaksOff k p command Made old new → TranscribesFront k p command old new
  front_of (bytes, is, made, put) = (bytes, is, put)

  -- what holds at any rate holds where the transcript is whole
  pub breaks_off : Made → TranscribesFront k p command old new → BreaksOff k p command Made old new
  breaks_off made (bytes, is, put) = (bytes, is, λ whole. made, put)

  pub traced_with : {T : Type 0} (r : Result T StepFault) → Made → TracesAt k p command (Unit {0}) old new r
      → TracesAt k p command Made old new r
  traced_with (Ok answered) made traced = traced
  traced_with (Err fault) made (bytes, is, whole, put) = (bytes, is, λ x. made, put)
