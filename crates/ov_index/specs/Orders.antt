-- The two orders in which an indexed graph keeps its nodes, and where a set goes in them. Inner: no
-- public contract needs this.
use Rattle.std.specs.Prelude.{ℕ, ◌≡◌, ◌<◌, ◌≤◌, true, false}
use Rattle.std.specs.Prelude.{List, All, Contains, length, slice_index}
use Rattle.std.specs.Ordering.{is_lt}
use Rattle.ov_tokens.specs.declared.edge.Edge.{Edge}
use Rattle.ov_base.specs.Sets.{set_cmp, size}
use Rattle.ov_graph.specs.declared.rows.Span.{Span}
use Rattle.ov_graph.specs.Cover.{is_candidate}
use Rattle.ov_graph.specs.Rows.{IsListGraph}

-- the set of the one node comes before that of the other
abbrev pub IsBefore : List ℕ → ℕ → ℕ → Type 0
IsBefore sets node later = is_lt (set_cmp (slice_index sets node) (slice_index sets later)) ≡ true

-- the one node's set is larger than the other's, or as large and its number is lower
abbrev pub IsLarger : List ℕ → ℕ → ℕ → Type 0
IsLarger sets node later =
    let users = size (slice_index sets node) in let fewer = size (slice_index sets later) in
    (fewer ≤ users) × (users ≤ fewer → node < later)

-- each node of the list is ordered so to the nodes that come later
abbrev pub Ascends : (ℕ → ℕ → Type 0) → List ℕ → Type 0
Ascends IsTo order =
    (i j : ℕ) → i < j → j < length order → IsTo (slice_index order i) (slice_index order j)

-- just the nodes below the count, in order
pub record IsOrder (IsTo : ℕ → ℕ → Type 0) (count : ℕ) (order : List ℕ) : Type 0 where
  pub inside : All (λ node. node < count) order
  pub whole : (node : ℕ) → node < count → Contains order node
  pub ascends : Ascends IsTo order

-- the place of the first node whose set doesn't come before this one
pub record IsSetPlace (sets order : List ℕ) (set place : ℕ) : Type 0 where
  pub within : place ≤ length order
  pub before : (k : ℕ) → k < place
      → is_lt (set_cmp (slice_index sets (slice_index order k)) set) ≡ true
  pub after : (k : ℕ) → place ≤ k → k < length order
      → is_lt (set_cmp (slice_index sets (slice_index order k)) set) ≡ false

-- the place of the first node whose set has fewer users
pub record IsSizePlace (sets order : List ℕ) (users place : ℕ) : Type 0 where
  pub within : place ≤ length order
  pub before : (k : ℕ) → k < place → users ≤ size (slice_index sets (slice_index order k))
  pub after : (k : ℕ) → place ≤ k → k < length order
      → size (slice_index sets (slice_index order k)) < users

-- nodes whose sets have fewer users than the set, all its candidates among them, in order
pub record IsOrderBelow (sets : List ℕ) (set : ℕ) (order : List ℕ) : Type 0 where
  pub inside : All (λ node. node < length sets) order
  pub smaller : All (λ node. size (slice_index sets node) < size set) order
  pub whole : (node : ℕ) → node < length sets
      → is_candidate set (slice_index sets node) ≡ true → Contains order node
  pub ascends : Ascends (IsLarger sets) order

-- what holds of a graph that is kept with both orders of its nodes
pub record IsIndexGraph (sets : List ℕ) (edges : List Edge) (spans : List Span)
    (by_set by_size : List ℕ) : Type 0 where
  pub list : IsListGraph sets edges spans
  pub order_by_set : IsOrder (IsBefore sets) (length sets) by_set
  pub order_by_size : IsOrder (IsLarger sets) (length sets) by_size
