use Rattle.std.proofs.Common.{◌≡◌, ◌<◌, drop, None, IfSome}
use Rattle.ov_base.specs.declared.limits.TheConstants.{MAX_LAYER_NODES}
use Rattle.ov_chain.specs.Distances.{least_start}
use Rattle.ov_chain.proofs.distances.beyond.Given as goal

abbrev pub invariant-loop-edge : goal.invariant-loop-edge
invariant-loop-edge l = record {
  rest : least_start l.distances l.least (drop l.edge-index l.edges) ≡ least_start l.distances None l.edges;
  small : IfSome l.least (λ d. d < MAX_LAYER_NODES);
}
