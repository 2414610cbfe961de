-- What commands leave of a sealed history but for files that were gone before them.
use Rattle.std.specs.Prelude.{List}
use Rattle.ov_script.specs.declared.command.Command.{Command}
use Rattle.ov_history.specs.Masters.{Masters}
use Rattle.ov_history.specs.Plain.{PlainHistory}
use Rattle.ov_history.specs.Sealed.{SealedHistory}
use Rattle.ov_history.specs.Sealing.{IsSealedAs, IsSealedSince}
use Rattle.ov_model.specs.Step.{after_all}

-- what is the sealed form after commands but for files that were gone before them is right
abbrev pub SealedFormsAreRight : Type 0
SealedFormsAreRight =
    (k : Masters) (p : PlainHistory) (commands : List Command) (g : SealedHistory)
    → IsSealedSince k p (after_all p commands) g → IsSealedAs k (after_all p commands) g
