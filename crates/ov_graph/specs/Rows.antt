-- Edges that are kept in one list, with a span of it for each node.
use Rattle.std.specs.Prelude.{ℕ, ◌+◌, ◌≤◌, List, [], ◌∷◌, length, take, drop}
use Rattle.ov_tokens.specs.declared.edge.Edge.{Edge}
use Rattle.ov_graph.specs.declared.rows.Span.{Span}
use Rattle.ov_base.specs.declared.limits.TheConstants.{MAX_LAYER_NODES}
use Rattle.ov_graph.specs.Contents.{IsGraph}

-- the edges in a span
abbrev pub row : List Edge → Span → List Edge
row edges span = take span.many (drop span.first edges)

-- the edges in each span
abbrev pub rows : List Edge → List Span → List (List Edge)
rows edges [] = []
rows edges (span ∷ spans) = row edges span ∷ rows edges spans

-- each span lies within a list of this length
abbrev pub AreInside : ℕ → List Span → Type 0
AreInside long [] = Unit {0}
AreInside long (span ∷ spans) = (span.first + span.many ≤ long) × AreInside long spans

-- what holds of a graph that is kept so
pub record IsListGraph (sets : List ℕ) (edges : List Edge) (spans : List Span) : Type 0 where
  pub graph : IsGraph sets (rows edges spans)
  pub inside : AreInside (length edges) spans
  pub few : length sets ≤ MAX_LAYER_NODES
