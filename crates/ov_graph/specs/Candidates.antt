-- What is kept of candidates while they are put in order. A graph that finds its own in
-- another way cites it.
use Rattle.std.specs.Prelude.{ℕ, ◌-◌, List, map, slice_index}
use Rattle.ov_base.specs.Sets.{size}
use Rattle.ov_graph.specs.declared.covering.Candidate.{Candidate}

-- a node with the number of users of the set that its own lacks
abbrev pub entry : List ℕ → ℕ → ℕ → Candidate
entry sets set node = record { node = node; lacks = size set - size (slice_index sets node) }

-- the entries of these nodes, in order
abbrev pub entries : List ℕ → ℕ → List ℕ → List Candidate
entries sets set nodes = map (entry sets set) nodes

-- the nodes of these entries, in order
abbrev pub nodes_of : List Candidate → List ℕ
nodes_of candidates = map (λ (c : Candidate). c.node) candidates
