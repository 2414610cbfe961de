-- Inner: no public contract needs this. Marks on nodes, kept in a list by node.
use Rattle.std.specs.Prelude.{ℕ, ◌≡◌, Bool, true, false, List, [], ◌∷◌}
use Rattle.std.specs.Prelude.{slice_index_or, slice_set, Contains}
use Rattle.ov_tokens.specs.declared.edge.Edge.{Edge}
use Rattle.ov_graph.specs.Reach.{starts}

-- the node has a mark
abbrev pub IsMarked : List Bool → ℕ → Type 0
IsMarked marks node = slice_index_or marks node false ≡ true

-- the marks, with the starts of these edges marked too
abbrev pub starts_marked : List Edge → List Bool → List Bool
starts_marked [] marks = marks
starts_marked (edge ∷ edges) marks = starts_marked edges (slice_set marks edge.from true)

-- with a node the start of each edge into it is marked
abbrev pub IsClosed : List ℕ → List Bool → Type 0
IsClosed sets marks =
    (node from : ℕ) → IsMarked marks node → Contains (starts sets node) from → IsMarked marks from
