use Rattle.std.proofs.Common.{ℕ, ◌<◌, get_or}
use Rattle.ov_fields.specs.Spelling.{IsToken}
use Rattle.ov_server.proofs.Nothing.{no_edge}
use Rattle.ov_server.proofs.form.edges_have_tokens.Given as goal

abbrev pub invariant-loop-edge : goal.invariant-loop-edge
invariant-loop-edge l = (k : ℕ) → k < l.edge-index → IsToken (get_or l.edges k no_edge).token
