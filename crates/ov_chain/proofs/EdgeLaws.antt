-- The edges into a node of a graph.
use Rattle.std.proofs.Common.{ℕ, zero, suc, ◌≡◌, ◌<◌, ◌≤◌, List, [], ◌∷◌, length, get_or, Some, None, ◌∙◌, ap, arith, subst}
use Rattle.std.specs.Prelude.{Option, IfSome, Contains}
use Rattle.ov_tokens.specs.declared.edge.Edge.{Edge}
use Rattle.ov_graph.specs.Contents.{Contents, edges_to, starts_of, IsGraph}
use Rattle.ov_graph.specs.Reach.{starts}
use Rattle.ov_graph.proofs.ListLaws.{Contains-first, Contains-later}
use Rattle.ov_graph.proofs.ReachLaws.{starts-Contains}
use Rattle.ov_chain.specs.Distances.{distance_at, IsFound}
use Rattle.ov_chain.proofs.DistanceLaws.{StartsAreFound}

pub edges_cover : (graph : Contents) (n : ℕ) (es : List Edge) → IsGraph graph.sets graph.edges
    → n < length graph.sets → es ≡ edges_to graph n → starts_of es ≡ starts graph.sets n
edges_cover graph n es is inside e = ap starts_of e ∙ is.covers n inside

pub start_Contains : (es : List Edge) (k : ℕ) (d : Edge) → k < length es
    → Contains (starts_of es) (get_or es k d).from
start_Contains [] k d h = absurd (omega arith)
start_Contains (e ∷ es) zero d h = Contains-first e.from (starts_of es)
start_Contains (e ∷ es) (suc k) d h = Contains-later e.from (starts_of es) (get_or es k d).from (start_Contains es k d (omega arith))

-- edges go upward
pub edges_below : (graph : Contents) (n bound : ℕ) (es : List Edge) → IsGraph graph.sets graph.edges
    → n < length graph.sets → es ≡ edges_to graph n → n ≤ bound → (k : ℕ) (d : Edge) → k < length es
    → (get_or es k d).from < bound
edges_below graph n bound es is inside e low k d i =
    let there : Contains (starts graph.sets n) (get_or es k d).from = subst (λ (cs : List ℕ). Contains cs (get_or es k d).from) (edges_cover graph n es is inside e) (start_Contains es k d i) in
    let below : (get_or es k d).from < n = (starts-Contains graph.sets n (get_or es k d).from there).0 in
    omega arith

pub found_small : (sets : List ℕ) (root n limit : ℕ) (o : Option ℕ) → IsFound sets root n o → n < limit
    → IfSome o (λ d. d < limit)
found_small sets root n limit None f h = tt
found_small sets root n limit (Some k) f h = omega (arith, f.1)

pub starts_right : (graph : Contents) (root n : ℕ) (ds : List (Option ℕ)) (es : List Edge)
    → IsGraph graph.sets graph.edges → n < length graph.sets → es ≡ edges_to graph n
    → ((from : ℕ) → Contains (starts graph.sets n) from → IsFound graph.sets root from (distance_at ds from))
    → StartsAreFound graph.sets root ds es
starts_right graph root n ds es is inside e right from i = right from (subst (λ (cs : List ℕ). Contains cs from) (edges_cover graph n es is inside e) i)
