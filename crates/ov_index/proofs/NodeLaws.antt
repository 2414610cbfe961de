-- The node of a set in two lists of sets, one after the other.
use Rattle.std.proofs.Common.{ℕ, ◌≡◌, ◌≢◌, ◌<◌, ◌≤◌, ◌+◌, ◌-◌, ◌==◌, List, ◌++◌, length, get_or, sym, ◌∙◌, ap, arith, inl, inr, eq-eqb, true≢false, Some, None, length-append}
use Rattle.std.proofs.lemmas.Bool.{cases_lt}
use Rattle.std.proofs.lemmas.List.{get_or_append_left, get_or-append-add}
use Rattle.std.proofs.lemmas.List.Quantifiers.{position-Some}
use Rattle.ov_graph.specs.Contents.{node_of}
use Rattle.ov_graph.proofs.ListLaws.{first_is, none_is, node_none, node_some}

-- no earlier node has the set
none_earlier : (sets : List ℕ) (set node : ℕ) → node_of sets set ≡ Some node → (k : ℕ) → k < node
    → get_or sets k 0 ≢ set
none_earlier sets set node is k h same =
    let (inside, here, earlier) = position-Some (λ s. s == set) sets node 0 is in
    true≢false (sym (eq-eqb _ _ same) ∙ earlier k h)

module _ (sets more : List ℕ) (set : ℕ) where
  -- an item of the second list
  item_later : (k : ℕ) → length sets ≤ k → get_or (sets ++ more) k 0 ≡ get_or more (k - length sets) 0
  item_later k h =
      let e : k ≡ length sets + (k - length sets) = omega arith in
      ap (λ n. get_or (sets ++ more) n 0) e ∙ get_or-append-add sets more (k - length sets) 0

  pub node_of_first : (node : ℕ) → node_of sets set ≡ Some node → node_of (sets ++ more) set ≡ Some node
  node_of_first node is =
      let (inside, has) = node_some sets set node is in
      first_is (sets ++ more) set node (omega (arith, length-append sets more)) (get_or_append_left sets more 0 node inside ∙ has) (λ k h same.
      none_earlier sets set node is k h (sym (get_or_append_left sets more 0 k (omega arith)) ∙ same))

  pub node_of_later : (node : ℕ) → node_of sets set ≡ None → node_of more set ≡ Some node
      → node_of (sets ++ more) set ≡ Some (length sets + node)
  node_of_later node none is =
      let (inside, has) = node_some more set node is in
      first_is (sets ++ more) set (length sets + node) (omega (arith, length-append sets more)) (get_or-append-add sets more node 0 ∙ has) (λ k h same. elim (cases_lt k (length sets)) [
        | inl first ↦ node_none sets set none k first (sym (get_or_append_left sets more 0 k first) ∙ same)
        | inr later ↦ none_earlier more set node is (k - length sets) (omega arith) (sym (item_later k (omega arith)) ∙ same)
      ])

  pub node_of_none : node_of sets set ≡ None → node_of more set ≡ None → node_of (sets ++ more) set ≡ None
  node_of_none none no_later = none_is (sets ++ more) set (λ k h same. elim (cases_lt k (length sets)) [
    | inl first ↦ node_none sets set none k first (sym (get_or_append_left sets more 0 k first) ∙ same)
    | inr later ↦ node_none more set no_later (k - length sets) (omega (arith, length-append sets more)) (sym (item_later k (omega arith)) ∙ same)
  ])
