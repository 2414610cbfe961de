-- What a graph contains, however it is kept.
use Rattle.std.specs.Prelude.{ℕ, ◌≡◌, ◌<◌, ◌≤◌, ◌==◌, true, false, List, [], ◌∷◌, length, map}
use Rattle.std.specs.Prelude.{slice_index_or, Option, Some, None, position}
use Rattle.ov_tokens.specs.declared.token.Token.{Token}
use Rattle.ov_tokens.specs.declared.edge.Edge.{Edge}
use Rattle.ov_graph.specs.declared.cover.Cover.{Cover}
use Rattle.ov_graph.specs.Cover.{cover_of}
use Rattle.ov_base.specs.Sets.{single}
use Rattle.ov_graph.specs.Reach.{starts, IsGrown}

-- the sets of the nodes, the edges into each node, and for how many more of both there is room
pub record Contents : Type 0 where
  pub sets : List ℕ
  pub edges : List (List Edge)
  pub spare_sets : ℕ
  pub spare_edges : ℕ

-- the graph has a node of this number
abbrev pub HasNode : Contents → ℕ → Type 0
HasNode graph node = node < length graph.sets

-- there is room for this many more sets and this many more edges
abbrev pub HasRoom : Contents → ℕ → ℕ → Type 0
HasRoom graph sets edges = (sets ≤ graph.spare_sets) × (edges ≤ graph.spare_edges)

-- the edges into a node, in order
abbrev pub edges_to : Contents → ℕ → List Edge
edges_to graph node = slice_index_or graph.edges node []

-- the nodes that edges start at
abbrev pub starts_of : List Edge → List ℕ
starts_of edges = map (λ (edge : Edge). edge.from) edges

-- edges with these starts and tokens
abbrev pub joined : List ℕ → List Token → List Edge
joined [] tokens = []
joined (from ∷ starts) [] = []
joined (from ∷ starts) (token ∷ tokens) =
    record { from = from; token = token } ∷ joined starts tokens

-- the first node that has the set
abbrev pub node_of : List ℕ → ℕ → Option ℕ
node_of sets set = position (λ s. s == set) sets

-- what a set gets, by the node that has it where one has: that node, or a new one with its cover
abbrev pub planned : Option ℕ → List ℕ → ℕ → Cover
planned (Some node) sets set = record { node = node; fresh = false; from = [] }
planned None sets set = record { node = length sets; fresh = true; from = cover_of sets set }

-- what a set gets that comes after these sets
abbrev pub plan_of : List ℕ → ℕ → Cover
plan_of sets set = planned (node_of sets set) sets set

-- the node of a set that comes after these sets: its own, or the next where no node has it
abbrev pub node_for : List ℕ → ℕ → ℕ
node_for sets set = (plan_of sets set).node

-- the node of a user alone
abbrev pub root_of : List ℕ → ℕ → ℕ
root_of sets user = node_for sets (single user)

-- the edges into each node start, in order, at the nodes of its cover
abbrev pub FollowsCovers : Contents → Type 0
FollowsCovers graph =
    (node : ℕ) → HasNode graph node → starts_of (edges_to graph node) ≡ starts graph.sets node

-- what holds of each graph: its sets are grown, and the edges into each node come from the cover of
-- its set
pub record IsGraph (sets : List ℕ) (edges : List (List Edge)) : Type 0 where
  pub grown : IsGrown sets
  pub rows : length edges ≡ length sets
  pub covers : (node : ℕ)
      → node < length sets → starts_of (slice_index_or edges node []) ≡ starts sets node
