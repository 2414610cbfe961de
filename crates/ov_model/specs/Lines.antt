-- The lines with which a list of commands is answered.
use Rattle.std.specs.Prelude.{ℕ, List, [], ◌∷◌, ◌++◌}
use Rattle.ov_script.specs.Lines.{reply_line}
use Rattle.ov_script.specs.declared.command.Command.{Command}
use Rattle.ov_history.specs.Plain.{PlainHistory}
use Rattle.ov_model.specs.Step.{reply_to, after}

-- the reply line of each command, at the history after those before it
abbrev pub lines : PlainHistory → List Command → List ℕ
lines h [] = []
lines h (command ∷ commands) = reply_line (reply_to h command) ++ lines (after h command) commands
