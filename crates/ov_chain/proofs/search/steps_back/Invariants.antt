use Rattle.ov_chain.proofs.WayBack.{IsBack}
use Rattle.ov_chain.proofs.search.steps_back.Given as goal

abbrev pub invariant-loop-left : goal.invariant-loop-left
invariant-loop-left g l = IsBack g.L.Layer.label_kind (g.G.Graph.contents l.graph) l.root l.fn.node l.fn.far l.here l.left l.steps.items
