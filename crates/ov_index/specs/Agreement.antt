-- Graphs that a caller of the trait can't tell apart, however each is kept.
use Rattle.std.specs.Prelude.{ℕ, ◌≡◌, ◌↔◌, ◌++◌, List, length, slice_index}
use Rattle.ov_tokens.specs.declared.label.Kind.{Kind}
use Rattle.ov_tokens.specs.declared.chain.Step.{Step}
use Rattle.ov_graph.specs.Contents.{Contents, edges_to, node_of, plan_of}
use Rattle.ov_graph.specs.Chain.{IsChain}
use Rattle.ov_graph.specs.Reach.{Leads}

-- the graphs have the same sets and the same edges
pub record Agree (one other : Contents) : Type 0 where
  pub sets : one.sets ≡ other.sets
  pub edges : one.edges ≡ other.edges

-- The graphs have the same answer to each question: how many nodes there are, the set of a node,
-- the node of a set, what a set gets behind these sets and others, the edges into a node, whether
-- one node leads to another, and which chains there are, of which there is one at most.
pub record AnswerAlike (kind : Kind) (one other : Contents) : Type 0 where
  pub count : length one.sets ≡ length other.sets
  pub sets : (node : ℕ) → slice_index one.sets node ≡ slice_index other.sets node
  pub nodes : (set : ℕ) → node_of one.sets set ≡ node_of other.sets set
  pub plans : (before : List ℕ) (set : ℕ)
      → plan_of (one.sets ++ before) set ≡ plan_of (other.sets ++ before) set
  pub edges : (node : ℕ) → edges_to one node ≡ edges_to other node
  pub leads : (root node : ℕ) → Leads one.sets root node ↔ Leads other.sets root node
  pub chains : (root node : ℕ) (steps : List Step)
      → IsChain kind one root node steps ↔ IsChain kind other root node steps
  pub chain : (root node : ℕ) (steps others : List Step)
      → IsChain kind one root node steps → IsChain kind other root node others → steps ≡ others
