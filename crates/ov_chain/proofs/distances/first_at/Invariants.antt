use Rattle.std.proofs.Common.{◌≡◌, drop}
use Rattle.ov_chain.specs.Distances.{first_near}
use Rattle.ov_chain.proofs.distances.first_at.Given as goal

abbrev pub invariant-loop-edge : goal.invariant-loop-edge
invariant-loop-edge l = first_near l.distances l.distance (drop l.edge-index l.edges) ≡ first_near l.distances l.distance l.edges
