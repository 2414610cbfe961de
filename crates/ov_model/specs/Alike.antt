-- What the machine answers where one sealed history is right by two plain ones. These differ in the
-- bytes of files that are gone alone, which nobody is answered.
use Rattle.std.specs.Prelude.{◌≡◌, List}
use Rattle.ov_script.specs.declared.command.Command.{Command}
use Rattle.ov_history.specs.FadingLaws.{IsRight}
use Rattle.ov_history.specs.Masters.{Masters}
use Rattle.ov_history.specs.Plain.{PlainHistory}
use Rattle.ov_history.specs.Sealed.{SealedHistory}
use Rattle.ov_history.specs.Sealing.{IsSealedAs}
use Rattle.ov_model.specs.Lines.{lines}
use Rattle.ov_model.specs.Step.{after, reply_to}

-- a command has the same reply by both, and what is right by the one after it is so by the other
abbrev pub RightHistoriesStepAlike : Type 0
RightHistoriesStepAlike =
    (k : Masters) (p q : PlainHistory) (g next : SealedHistory) (command : Command)
    → IsRight k p g → IsRight k q g
    → (reply_to p command ≡ reply_to q command)
    × (IsSealedAs k (after p command) next → IsSealedAs k (after q command) next)

-- a list of commands has the same lines by both
abbrev pub RightHistoriesHaveSameLines : Type 0
RightHistoriesHaveSameLines =
    (k : Masters) (p q : PlainHistory) (g : SealedHistory) (commands : List Command)
    → IsRight k p g → IsRight k q g → lines p commands ≡ lines q commands
