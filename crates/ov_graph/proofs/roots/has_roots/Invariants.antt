use Rattle.std.proofs.Common.{◌<◌, ◌≤◌, ◌*◌, ℕ}
use Rattle.std.specs.Prelude.{Contains}
use Rattle.ov_base.specs.Sets.{single, size, Has, IsBelow}
use Rattle.ov_graph.proofs.roots.has_roots.Given as goal

abbrev pub invariant-loop-user : goal.invariant-loop-user
invariant-loop-user g l = record {
  several : 2 ≤ size l.set;
  rooted : (u : ℕ) → u < l.user → Has l.set u → Contains (g.G.Graph.contents l.graph).sets (single u);
  limit : 0 < l.user → IsBelow (64 * g.row.W) l.set;
}
