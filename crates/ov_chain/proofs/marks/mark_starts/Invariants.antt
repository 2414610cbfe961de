use Rattle.std.proofs.Common.{◌≡◌, drop}
use Rattle.ov_chain.specs.Marks.{starts_marked}
use Rattle.ov_chain.proofs.marks.mark_starts.Given as goal

abbrev pub invariant-loop-edge : goal.invariant-loop-edge
invariant-loop-edge l = starts_marked (drop l.edge-index l.edges) l.marks ≡ starts_marked l.edges l.initial.marks
