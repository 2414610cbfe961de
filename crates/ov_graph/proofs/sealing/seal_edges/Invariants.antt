use Rattle.std.proofs.Common.{◌≡◌, take, map}
use Rattle.ov_graph.specs.Seals.{edge_token}
use Rattle.ov_graph.proofs.sealing.seal_edges.Given as goal

abbrev pub invariant-loop-from : goal.invariant-loop-from
invariant-loop-from g l =
    l.tokens ≡ map (λ from. edge_token g.L.Layer.label_kind l.master.bytes from l.cover.node) (take l.from-index l.from-items)
