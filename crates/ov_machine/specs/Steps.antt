-- All that one step of the machine does, whatever history is kept. Most of it is said where the disk
-- tells its bytes; `as_told`, `step`, `sink` and `tag` are said of any disk.
use Rattle.std.specs.Prelude.{◌≡◌, ℕ, List, Result, Err, IfOk}
use Rattle.ov_disk.specs.Tells.{DiskTells}
use Rattle.ov_io.specs.Tells.{SinkTells}
use Rattle.ov_script.specs.declared.command.Command.{Command}
use Rattle.ov_script.specs.declared.command.Command.TheVariants.{Read}
use Rattle.ov_script.specs.declared.reply.Reply.{Reply}
use Rattle.ov_history.specs.Plain.{PlainHistory}
use Rattle.ov_model.specs.Step.{after, reply_to}
use Rattle.ov_machine.specs.Frames.{Traces}
use Rattle.ov_machine.specs.Machine.{IsStep, Kept, KeptOn, StandsAsTold, Steps}
use Rattle.ov_machine.specs.Sinks.{PutsTo}
use Rattle.ov_machine.specs.declared.fault.BadTag.{BadTag}
use Rattle.ov_machine.specs.declared.fault.StepFault.{StepFault}
use Rattle.ov_machine.specs.declared.fault.StepFault.TheVariants.{Tag, Trace}

-- the command reads this file
abbrev pub IsReadOf : List ℕ → Command → Type 0
IsReadOf file command = (user : List ℕ) × (command ≡ Read user file)

-- The reply is the machine's, but for that to a read, whose bytes the disk may not tell; and what is
-- kept goes on as the history does.
abbrev pub AnswersAsTold : PlainHistory → Command → Kept → Reply → Type 0
AnswersAsTold p command new reply =
    (((file : List ℕ) → IsReadOf file command → ⊥) → reply ≡ reply_to p command)
    × StandsAsTold new (after p command)

-- a step of the command that is answered, at whatever history is kept as far as the disk tells it
abbrev pub StepsAsTold : {D : Type 0} → Command → KeptOn D → KeptOn D → Result Reply StepFault
    → Type 0
StepsAsTold command old new result =
    (p : PlainHistory) → StandsAsTold old.kept p → IfOk result (AnswersAsTold p command new.kept)

-- A command is one step. Where the disk tells its bytes: what its reply, what is kept and the disk
-- are, and what was put of its transcript. Over any disk: what its reply and what is kept are as far
-- as the disk tells its bytes, what is kept of the machine at any rate, and where its faults come
-- from. A wrong tag is that of the file which the command reads.
pub record IsWholeStep {D T : Type 0} (disk_tells : DiskTells D) (sink_tells : SinkTells T)
    (command : Command) (old new : KeptOn D) (t_old t_new : T) (result : Result Reply StepFault)
    : Type 0 where
  pub steps : Steps disk_tells command old new result
  pub traced : Traces disk_tells command old new (sink_tells.written t_old)
      (sink_tells.written t_new) result
  pub as_told : StepsAsTold command old new result
  pub step : IsStep disk_tells old new result
  pub sink : PutsTo sink_tells (result ≡ Err Trace) t_old t_new
  pub tag : (bad : BadTag) → result ≡ Err (Tag bad) → IsReadOf bad.file command
