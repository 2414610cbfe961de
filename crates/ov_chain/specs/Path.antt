-- Paths over the edges of a graph, and the shortest.
use Rattle.std.specs.Prelude.{ℕ, ◌≡◌, ◌≤◌, List, [], ◌∷◌, length, Contains}
use Rattle.ov_tokens.specs.declared.label.Kind.{Kind}
use Rattle.ov_tokens.specs.declared.edge.Edge.{Edge}
use Rattle.ov_tokens.specs.declared.chain.Step.{Step}
use Rattle.ov_tokens.specs.Labels.{label_of}
use Rattle.ov_tokens.specs.Keys.{node_key}
use Rattle.ov_graph.specs.Contents.{Contents, edges_to}
use Rattle.ov_graph.specs.Chain.{IsChain}
use Rattle.ov_graph.specs.Reach.{Walk}
use Rattle.ov_chain.specs.Walk.{walked, IsSealed}

-- the step goes over an edge between the nodes: it has the label of the edge's end, and the edge's
-- token
pub record IsStep (kind : Kind) (graph : Contents) (from to : ℕ) (step : Step) : Type 0 where
  pub edge : Edge
  pub there : Contains (edges_to graph to) edge
  pub starts : edge.from ≡ from
  pub leads : step ≡ record { to = label_of kind to; token = edge.token }

-- the steps go over edges of the graph, one after the other, from the one node to the other
abbrev pub IsPath : Kind → Contents → ℕ → ℕ → List Step → Type 0
IsPath kind graph from to [] = from ≡ to
IsPath kind graph from to (step ∷ steps) =
    (near : ℕ) × IsStep kind graph from near step × IsPath kind graph near to steps

-- The steps go over edges of the graph, no walk over its edges is shorter, and where the graph's
-- tokens are true, under a master of its layer, they lead from the root's key to the node's.
pub record IsShortestPath (kind : Kind) (graph : Contents) (root node : ℕ) (steps : List Step)
    : Type 0 where
  pub path : IsPath kind graph root node steps
  pub shortest : (edges : ℕ) → Walk graph.sets root node edges → length steps ≤ edges
  pub keys : (master : List ℕ)
      → IsSealed kind master graph
      → walked (node_key kind master root) steps ≡ node_key kind master node

-- a chosen chain is the only one, in all graphs with the same sets and edges
abbrev pub OneChain : Type 0
OneChain =
    (kind : Kind) (one other : Contents) (root node : ℕ) (steps others : List Step)
    → one.sets ≡ other.sets → one.edges ≡ other.edges
    → IsChain kind one root node steps → IsChain kind other root node others → steps ≡ others
