-- Inner: no public contract needs this. Distances from a root, kept in a list by node.
use Rattle.std.specs.Prelude.{ℕ, ◌+◌, ◌≤◌, ◌==◌, Bool, false, cond, min}
use Rattle.std.specs.Prelude.{List, [], ◌∷◌, slice_index_or, Option, Some, None}
use Rattle.ov_tokens.specs.declared.edge.Edge.{Edge}
use Rattle.ov_graph.specs.Reach.{Leads}
use Rattle.ov_graph.specs.Chain.{IsDistance}
use Rattle.ov_chain.specs.Marks.{IsMarked}

-- what was found of a node
abbrev pub distance_at : List (Option ℕ) → ℕ → Option ℕ
distance_at distances node = slice_index_or distances node None

-- what was found of a node is right: its distance, or that the root doesn't lead to it
abbrev pub IsFound : List ℕ → ℕ → ℕ → Option ℕ → Type 0
IsFound sets root node None = ¬ Leads sets root node
IsFound sets root node (Some distance) = IsDistance sets root node distance × (distance ≤ node)

-- what was found of each marked node is right
abbrev pub MarkedAreFound : List ℕ → ℕ → List Bool → List (Option ℕ) → Type 0
MarkedAreFound sets root marks distances =
    (node : ℕ) → IsMarked marks node → IsFound sets root node (distance_at distances node)

-- what was found of each node that leads to the last is right
abbrev pub AreFound : List ℕ → ℕ → ℕ → List (Option ℕ) → Type 0
AreFound sets root last distances =
    (node : ℕ) → Leads sets node last → IsFound sets root node (distance_at distances node)

-- the smaller of two distances, where there are any
abbrev pub smaller : Option ℕ → Option ℕ → Option ℕ
smaller None other = other
smaller (Some a) None = Some a
smaller (Some a) (Some b) = Some (min a b)

-- the least distance of the starts of these edges, and of what was found before
abbrev pub least_start : List (Option ℕ) → Option ℕ → List Edge → Option ℕ
least_start distances least [] = least
least_start distances least (edge ∷ edges) =
    least_start distances (smaller least (distance_at distances edge.from)) edges

-- one edge further
abbrev pub one_more : Option ℕ → Option ℕ
one_more None = None
one_more (Some distance) = Some (distance + 1)

-- whether a node was found at this distance
abbrev pub is_near : Option ℕ → ℕ → Bool
is_near None distance = false
is_near (Some found) distance = found == distance

-- the first of the edges whose start lies at this distance
abbrev pub first_near : List (Option ℕ) → ℕ → List Edge → Option Edge
first_near distances distance [] = None
first_near distances distance (edge ∷ edges) =
    cond (is_near (distance_at distances edge.from) distance) (Some edge)
    (first_near distances distance edges)
