-- The chosen chain from one node of a graph to another.
use Rattle.std.specs.Prelude.{ℕ, zero, suc, ◌≡◌, ◌≤◌, ◌⊎◌, ◌++◌, List, [], ◌∷◌}
use Rattle.ov_tokens.specs.declared.label.Kind.{Kind}
use Rattle.ov_tokens.specs.declared.edge.Edge.{Edge}
use Rattle.ov_tokens.specs.declared.chain.Step.{Step}
use Rattle.ov_tokens.specs.Labels.{label_of}
use Rattle.ov_graph.specs.Reach.{Walk}
use Rattle.ov_graph.specs.Contents.{Contents, edges_to}

-- the node lies this many edges from the root, and no fewer
pub record IsDistance (sets : List ℕ) (root node edges : ℕ) : Type 0 where
  pub walk : Walk sets root node edges
  pub least : (fewer : ℕ) → Walk sets root node fewer → edges ≤ fewer

-- the edge is the first of these whose start lies this many edges from the root
abbrev pub IsFirst : List ℕ → ℕ → ℕ → List Edge → Edge → Type 0
IsFirst sets root distance [] edge = ⊥
IsFirst sets root distance (first ∷ others) edge =
    (IsDistance sets root first.from distance × (edge ≡ first))
    ⊎ (¬ IsDistance sets root first.from distance × IsFirst sets root distance others edge)

-- The steps to a node that lies this many edges from the root. Going back from its end, each step
-- is the first of the edges into its node whose start lies one edge nearer to the root.
abbrev pub IsChosen : Kind → Contents → ℕ → ℕ → ℕ → List Step → Type 0
IsChosen kind graph root node zero steps = (root ≡ node) × (steps ≡ [])
IsChosen kind graph root node (suc distance) steps =
    (edge : Edge) × (before : List Step)
    × IsFirst graph.sets root distance (edges_to graph node) edge
    × IsChosen kind graph root edge.from distance before
    × (steps ≡ before ++ record { to = label_of kind node; token = edge.token } ∷ [])

-- a shortest chain, and among the shortest the one that is chosen so
pub record IsChain (kind : Kind) (graph : Contents) (root node : ℕ) (steps : List Step) : Type 0
  where
    pub edges : ℕ
    pub distance : IsDistance graph.sets root node edges
    pub chosen : IsChosen kind graph root node edges steps
