use Rattle.std.proofs.Common.{ℕ, ◌<◌}
use Rattle.ov_chain.specs.Marks.{IsMarked}
use Rattle.ov_chain.specs.Distances.{IsFound, distance_at}
use Rattle.ov_chain.proofs.distances.measure.Given as goal

abbrev pub invariant-loop-n : goal.invariant-loop-n
invariant-loop-n g l =
    (node : ℕ) → node < l.n → IsMarked l.marks node → IsFound (g.G.Graph.contents l.graph).sets l.root node (distance_at l.distances node)
