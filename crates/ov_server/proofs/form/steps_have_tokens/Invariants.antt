use Rattle.std.proofs.Common.{ℕ, ◌<◌, get_or}
use Rattle.ov_fields.specs.Spelling.{IsToken}
use Rattle.ov_server.proofs.Nothing.{no_step}
use Rattle.ov_server.proofs.form.steps_have_tokens.Given as goal

abbrev pub invariant-loop-step : goal.invariant-loop-step
invariant-loop-step l = (k : ℕ) → k < l.step-index → IsToken (get_or l.steps k no_step).token
