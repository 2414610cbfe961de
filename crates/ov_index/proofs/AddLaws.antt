-- The orders of a graph to which a set was added.
use Rattle.std.proofs.Common.{ℕ, ◌≡◌, ◌≢◌, ◌<◌, ◌+◌, List, [], ◌∷◌, ◌++◌, length, get_or, sym, ◌∙◌, ap, subst, arith, None, length-append}
use Rattle.std.proofs.lemmas.List.{append-nil, get_or_append_left}
use Rattle.ov_graph.specs.Contents.{node_of}
use Rattle.ov_graph.proofs.ListLaws.{node_none}
use Rattle.ov_graph.proofs.GraphLaws.{last_item}
use Rattle.ov_index.specs.Orders.{IsBefore, IsLarger, IsOrder}
use Rattle.ov_index.proofs.OrderLaws.{more_sets, more_sets_before}

module _ (sets sets2 : List ℕ) (set node : ℕ) (is : sets2 ≡ sets ++ set ∷ []) (next : node ≡ length sets) where
  -- the orders of the nodes before are orders of them still
  pub still_by_set : (order : List ℕ) → IsOrder (IsBefore sets) (length sets) order
      → IsOrder (IsBefore sets2) node order
  still_by_set order old = rw (is, next) (more_sets_before sets (set ∷ []) (length sets) order (omega arith) old)

  pub still_by_size : (order : List ℕ) → IsOrder (IsLarger sets) (length sets) order
      → IsOrder (IsLarger (sets2 ++ [])) node order
  still_by_size order old = rw (append-nil sets2, is, next) (more_sets sets (set ∷ []) (length sets) order (omega arith) old)

  -- no node before has the set
  pub is_new : node_of sets set ≡ None → (earlier : ℕ) → earlier < node
      → get_or sets2 earlier 0 ≢ get_or sets2 node 0
  is_new none earlier less same =
      node_none sets set none earlier (omega arith)
      (sym (get_or_append_left sets (set ∷ []) 0 earlier (omega arith)) ∙ ap (λ s. get_or s earlier 0) (sym is) ∙ same ∙ ap (λ s. get_or s node 0) is ∙ last_item sets set node 0 next)

  -- the orders of all are those of the graph
  count : node + 1 ≡ length sets2
  count = omega (arith, length-append sets (set ∷ []), ap length is)

  pub whole_by_set : (order : List ℕ) → IsOrder (IsBefore sets2) (node + 1) order
      → IsOrder (IsBefore sets2) (length sets2) order
  whole_by_set order new = subst (λ n. IsOrder (IsBefore sets2) n order) count new

  pub whole_by_size : (order : List ℕ) → IsOrder (IsLarger (sets2 ++ [])) (node + 1) order
      → IsOrder (IsLarger sets2) (length sets2) order
  whole_by_size order new = subst (λ n. IsOrder (IsLarger sets2) n order) count (subst (λ s. IsOrder (IsLarger s) (node + 1) order) (append-nil sets2) new)
