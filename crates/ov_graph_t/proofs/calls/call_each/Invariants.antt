use Rattle.std.proofs.Common.{drop}
use Rattle.ov_graph.specs.Contents.{Contents}
use Rattle.ov_graph_t.specs.Calls.{AreCalled}
use Rattle.ov_graph_t.proofs.calls.call_each.Given as goal

abbrev pub invariant-loop-each : goal.invariant-loop-each
invariant-loop-each g l =
    (new : Contents) → AreCalled (drop l.each-index l.calls) (g.G.Graph.contents l.graph) new
    → AreCalled l.calls (g.G.Graph.contents l.fn.graph) new
