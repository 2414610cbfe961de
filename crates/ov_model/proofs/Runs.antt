-- Laws of runs of several commands.
use Rattle.std.proofs.Common.{◌≡◌, List, [], ◌∷◌, ◌++◌, refl, sym, ◌∙◌, ap, append_assoc, append-nil}
use Rattle.ov_script.specs.Lines.{reply_line}
use Rattle.ov_script.specs.declared.command.Command.{Command}
use Rattle.ov_history.specs.Plain.{PlainHistory}
use Rattle.ov_model.specs.Lines.{lines}
use Rattle.ov_model.specs.Step.{reply_to, after, after_all}
use Rattle.ov_model.proofs.Steps.{first-after}

pub after_all-more : (h : PlainHistory) (commands : List Command) (command : Command) → after_all h (commands ++ command ∷ []) ≡ after (after_all h commands) command
after_all-more h [] command = refl
after_all-more h (first ∷ commands) command = after_all-more (after h first) commands command

pub lines-more : (h : PlainHistory) (commands : List Command) (command : Command)
    → lines h (commands ++ command ∷ []) ≡ lines h commands ++ reply_line (reply_to (after_all h commands) command)
lines-more h [] command = append-nil (reply_line (reply_to h command))
lines-more h (first ∷ commands) command =
    ap (λ t. reply_line (reply_to h first) ++ t) (lines-more (after h first) commands command)
    ∙ sym (append_assoc (reply_line (reply_to h first)) (lines (after h first) commands) (reply_line (reply_to (after_all (after h first) commands) command)))
