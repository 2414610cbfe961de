use Rattle.ov_chain.specs.Marks.{IsMarked}
use Rattle.ov_chain.proofs.MarkLaws.{IsClosedFrom}
use Rattle.ov_chain.proofs.marks.mark_ancestors.Given as goal

abbrev pub invariant-loop-n : goal.invariant-loop-n
invariant-loop-n g l = record {
  marked : IsMarked l.marks l.node;
  closed : IsClosedFrom (g.G.Graph.contents l.graph).sets l.n l.marks;
}
