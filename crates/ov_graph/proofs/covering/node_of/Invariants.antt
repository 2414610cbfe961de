use Rattle.std.proofs.Common.{◌≢◌, ◌<◌, ◌++◌, ℕ, get_or}
use Rattle.ov_graph.proofs.covering.node_of.Given as goal

abbrev pub invariant-loop-node : goal.invariant-loop-node
invariant-loop-node g l = (k : ℕ) → k < l.node → get_or (l.sets ++ l.before) k 0 ≢ l.set
