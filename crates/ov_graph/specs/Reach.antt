-- The edges between the nodes of a list of sets, and where they lead.
use Rattle.std.specs.Prelude.{ℕ, zero, suc, ◌≡◌, ◌<◌, ◌≤◌, ◌↔◌}
use Rattle.std.specs.Prelude.{List, length, slice_index, take, Contains}
use Rattle.ov_base.specs.Sets.{Has, single, size}
use Rattle.ov_graph.specs.Cover.{cover_of}

-- the starts of the edges to a node, in order
abbrev pub starts : List ℕ → ℕ → List ℕ
starts sets node = cover_of (take node sets) (slice_index sets node)

-- an edge leads from the one node to the other
abbrev pub IsEdge : List ℕ → ℕ → ℕ → Type 0
IsEdge sets from to = (to < length sets) × Contains (starts sets to) from

-- this many edges, one after the other, lead from the one node to the other
abbrev pub Walk : List ℕ → ℕ → ℕ → ℕ → Type 0
Walk sets from to zero = from ≡ to
Walk sets from to (suc edges) = (near : ℕ) × Walk sets from near edges × IsEdge sets near to

-- the edges lead from the one node to the other, or they are one: the least relation that is closed
-- under edges
abbrev pub Leads : List ℕ → ℕ → ℕ → Type 0
Leads sets from to = (edges : ℕ) × Walk sets from to edges

-- a set of two users or more may come after these sets only where each of its users has a set alone
abbrev pub IsRooted : List ℕ → ℕ → Type 0
IsRooted sets set =
    2 ≤ size set → (user : ℕ) → Has set user → Contains sets (single user)

-- the sets that a graph may have: distinct, and each rooted in those before it
pub record IsGrown (sets : List ℕ) : Type 0 where
  pub distinct : (m n : ℕ) → m < length sets → n < length sets
      → slice_index sets m ≡ slice_index sets n → m ≡ n
  pub rooted : (n : ℕ) → n < length sets → IsRooted (take n sets) (slice_index sets n)

-- the node of a user alone leads to exactly the nodes whose sets have the user
abbrev pub LeadsByMembership : List ℕ → Type 0
LeadsByMembership sets =
    (root node user : ℕ) → root < length sets → node < length sets
    → slice_index sets root ≡ single user
    → Leads sets root node ↔ Has (slice_index sets node) user
