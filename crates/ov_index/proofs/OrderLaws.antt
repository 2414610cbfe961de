-- Orders of nodes: other sets, and one node more.
use Rattle.std.proofs.Common.{ℕ, zero, suc, ◌≡◌, ◌<◌, ◌≤◌, ◌+◌, ◌-◌, List, ◌∷◌, ◌++◌, length, get_or, subst, arith, ◌⊎◌, inl, inr}
use Rattle.std.specs.Prelude.{All, Contains}
use Rattle.std.specs.List.{insert}
use Rattle.std.proofs.lemmas.Bool.{cases_eq, cases_lt}
use Rattle.std.proofs.lemmas.List.{get_or_append_left}
use Rattle.std.proofs.lemmas.List.Edits.{length-insert, get_or-insert_below, get_or-insert_at, get_or-insert_above}
use Rattle.std.proofs.lemmas.List.Sorted.{IsPermutation-insert, All-permutation, Contains-permutation}
use Rattle.ov_graph.proofs.ListLaws.{Contains-first, Contains-later}
use Rattle.ov_index.specs.Orders.{IsBefore, IsLarger, Ascends, IsOrder}

-- an order by another relation that says as much of these nodes
pub order_by : (Is To : ℕ → ℕ → Type 0) (count : ℕ) (order : List ℕ)
    → ((m n : ℕ) → m < count → n < count → Is m n → To m n) → IsOrder Is count order → IsOrder To count order
order_by Is To count order same old = record {
  inside = old.inside;
  whole = old.whole;
  ascends = λ i j less there. same _ _ (old.inside i 0 (omega arith)) (old.inside j 0 there) (old.ascends i j less there);
}

-- more sets change no order of the nodes of those before
pub more_sets : (sets more : List ℕ) (count : ℕ) (order : List ℕ) → count ≤ length sets
    → IsOrder (IsLarger sets) count order → IsOrder (IsLarger (sets ++ more)) count order
more_sets sets more count order few = order_by (IsLarger sets) (IsLarger (sets ++ more)) count order (λ m n hm hn is.
    rw (get_or_append_left sets more 0 m (omega arith), get_or_append_left sets more 0 n (omega arith)) is)

pub more_sets_before : (sets more : List ℕ) (count : ℕ) (order : List ℕ) → count ≤ length sets
    → IsOrder (IsBefore sets) count order → IsOrder (IsBefore (sets ++ more)) count order
more_sets_before sets more count order few = order_by (IsBefore sets) (IsBefore (sets ++ more)) count order (λ m n hm hn is.
    rw (get_or_append_left sets more 0 m (omega arith), get_or_append_left sets more 0 n (omega arith)) is)

-- ---- the next node at its place

module _ (IsTo : ℕ → ℕ → Type 0) (order : List ℕ) (count place : ℕ) (within : place ≤ length order) (old : IsOrder IsTo count order) (before : (k : ℕ) → k < place → IsTo (get_or order k 0) count) (after : (k : ℕ) → place ≤ k → k < length order → IsTo count (get_or order k 0)) where
  -- where each item of the new order comes from
  item : (k : ℕ) → ((k < place) × (get_or (insert order place count) k 0 ≡ get_or order k 0)) ⊎ (((k ≡ place) × (get_or (insert order place count) k 0 ≡ count)) ⊎ ((place < k) × (get_or (insert order place count) k 0 ≡ get_or order (k - 1) 0)))
  item k = elim (cases_lt k place) [
    | inl below ↦ inl (below, get_or-insert_below order place count 0 k below within)
    | inr not_below ↦ elim (cases_eq k place) [
      | inl here ↦ inr (inl (here, rw here (get_or-insert_at order place count 0 within)))
      | inr other ↦
          let back : k - 1 + 1 ≡ k = omega arith in
          inr (inr (omega arith, subst (λ n. get_or (insert order place count) n 0 ≡ get_or order (k - 1) 0) back (get_or-insert_above order place count 0 (k - 1) (omega arith) within)))
    ]
  ]

  ascends_more : Ascends IsTo (insert order place count)
  ascends_more i j less there =
      let long = length-insert order place count within in
      elim (item i) [
        | inl (i_below, i_is) ↦ elim (item j) [
          | inl (j_below, j_is) ↦ rw (i_is, j_is) (old.ascends i j less (omega arith))
          | inr j_not ↦ elim j_not [
            | inl (j_here, j_is) ↦ rw (i_is, j_is) (before i i_below)
            | inr (j_above, j_is) ↦ rw (i_is, j_is) (old.ascends i (j - 1) (omega arith) (omega arith))
          ]
        ]
        | inr i_not ↦ elim i_not [
          | inl (i_here, i_is) ↦ elim (item j) [
            | inl (j_below, j_is) ↦ absurd (omega arith)
            | inr j_not ↦ elim j_not [
              | inl (j_here, j_is) ↦ absurd (omega arith)
              | inr (j_above, j_is) ↦ rw (i_is, j_is) (after (j - 1) (omega arith) (omega arith))
            ]
          ]
          | inr (i_above, i_is) ↦ elim (item j) [
            | inl (j_below, j_is) ↦ absurd (omega arith)
            | inr j_not ↦ elim j_not [
              | inl (j_here, j_is) ↦ absurd (omega arith)
              | inr (j_above, j_is) ↦ rw (i_is, j_is) (old.ascends (i - 1) (j - 1) (omega arith) (omega arith))
            ]
          ]
        ]
      ]

  inside_more : All (λ node. node < count + 1) (count ∷ order)
  inside_more zero d h = omega arith
  inside_more (suc k) d h = omega (arith, old.inside k d (omega arith))

  whole_more : (node : ℕ) → node < count + 1 → Contains (count ∷ order) node
  whole_more node h = elim (cases_eq node count) [
    | inl last ↦ rw last (Contains-first count order)
    | inr other ↦ Contains-later count order node (old.whole node (omega arith))
  ]

  pub inserted : IsOrder IsTo (count + 1) (insert order place count)
  inserted = record {
    inside = All-permutation (λ node. node < count + 1) (count ∷ order) (insert order place count) (IsPermutation-insert order place count) inside_more;
    whole = λ node h. Contains-permutation (count ∷ order) (insert order place count) node (IsPermutation-insert order place count) (whole_more node h);
    ascends = ascends_more;
  }
