-- The place of a set among nodes in order.
use Rattle.std.proofs.Common.{ℕ, ◌≡◌, ◌≢◌, ◌<◌, ◌≤◌, ◌+◌, true, false, List, length, get_or, refl, sym, ◌∙◌, ap, subst, arith, inl, inr, true≢false, Some, None}
use Rattle.std.specs.Ordering.{is_lt, ordering_reverse}
use Rattle.std.specs.declared.cmp.Ordering.{Ordering}
use Rattle.std.specs.declared.cmp.Ordering.TheVariants.{Less, Equal, Greater}
use Rattle.std.specs.List.{insert}
use Rattle.std.specs.Cmp.{tied_itself}
use Rattle.std.proofs.lemmas.Bool.{cases_eq, cases_lt}
use Rattle.ov_base.specs.Sets.{set_cmp, size}
use Rattle.ov_base.proofs.SetOrder.{set_cmp-same, set_cmp-total}
use Rattle.ov_graph.specs.Contents.{node_of}
use Rattle.ov_graph.proofs.ListLaws.{Contains-place, first_is, none_is}
use Rattle.ov_index.specs.Orders.{IsBefore, IsLarger, Ascends, IsOrder, IsSetPlace, IsSizePlace}
use Rattle.ov_index.proofs.OrderLaws.{inserted}

-- ---- the order of sets

less_is : (o : Ordering) → is_lt o ≡ true → o ≡ Less
less_is Less e = refl
less_is Equal e = absurd (true≢false (sym e))
less_is Greater e = absurd (true≢false (sym e))

before_through : (a b c : ℕ) → is_lt (set_cmp a b) ≡ true → is_lt (set_cmp b c) ≡ true
    → is_lt (set_cmp a c) ≡ true
before_through a b c p q = ap is_lt (set_cmp-total.trans a b c (less_is _ p) (less_is _ q))

-- no set comes before itself
before_none : (a b : ℕ) → a ≡ b → is_lt (set_cmp a b) ≡ true → ⊥
before_none a b same p = true≢false (sym p ∙ ap (λ s. is_lt (set_cmp s b)) same ∙ ap is_lt (tied_itself set_cmp-total b))

-- of two sets the one comes before the other
before_or_after : (a b : ℕ) → is_lt (set_cmp a b) ≡ false → a ≢ b → is_lt (set_cmp b a) ≡ true
before_or_after a b not other = turned (set_cmp a b) refl not where
  turned : (o : Ordering) → set_cmp a b ≡ o → is_lt o ≡ false → is_lt (set_cmp b a) ≡ true
  turned Less is e = absurd (true≢false e)
  turned Equal is e = absurd (other (set_cmp-same a b is))
  turned Greater is e = ap is_lt (set_cmp-total.antisymm b a ∙ ap ordering_reverse is)

-- ---- halves by sets

module _ (sets order : List ℕ) (set middle : ℕ) (ascends : Ascends (IsBefore sets) order) (there : middle < length order) where
  pub before_middle : is_lt (set_cmp (get_or sets (get_or order middle 0) 0) set) ≡ true
      → (k : ℕ) → k < middle + 1 → is_lt (set_cmp (get_or sets (get_or order k 0) 0) set) ≡ true
  before_middle is k h = elim (cases_eq k middle) [
    | inl here ↦ rw here is
    | inr other ↦ before_through _ _ _ (ascends k middle (omega arith) there) is
  ]

  pub after_middle : is_lt (set_cmp (get_or sets (get_or order middle 0) 0) set) ≡ false
      → (k : ℕ) → middle ≤ k → k < length order → is_lt (set_cmp (get_or sets (get_or order k 0) 0) set) ≡ false
  after_middle not k h below = elim (cases_eq k middle) [
    | inl here ↦ rw here not
    | inr other ↦ elim (is_lt (set_cmp (get_or sets (get_or order k 0) 0) set)) as (λ b. is_lt (set_cmp (get_or sets (get_or order k 0) 0) set) ≡ b → b ≡ false) [
      | true ↦ λ t. absurd (true≢false (sym (before_through _ _ _ (ascends middle k (omega arith) below) t) ∙ not))
      | false ↦ λ t. refl
    ] refl
  ]

-- ---- a node goes to its place

pub inserted_by_set : (sets order : List ℕ) (node place : ℕ) → IsOrder (IsBefore sets) node order
    → ((earlier : ℕ) → earlier < node → get_or sets earlier 0 ≢ get_or sets node 0)
    → IsSetPlace sets order (get_or sets node 0) place
    → IsOrder (IsBefore sets) (node + 1) (insert order place node)
inserted_by_set sets order node place old new at = inserted (IsBefore sets) order node place at.within old at.before (λ k h below.
    before_or_after _ _ (at.after k h below) (new _ (old.inside k 0 below)))

pub inserted_by_size : (sets order : List ℕ) (node place : ℕ) → IsOrder (IsLarger sets) node order
    → IsSizePlace sets order (size (get_or sets node 0)) place
    → IsOrder (IsLarger sets) (node + 1) (insert order place node)
inserted_by_size sets order node place old at = inserted (IsLarger sets) order node place at.within old
    (λ k h. (at.before k h, λ same. old.inside k 0 (omega (arith, at.within))))
    (λ k h below. let less = at.after k h below in (omega arith, λ same. absurd (omega arith)))

-- ---- the node that has a set

module _ (sets order : List ℕ) (set first : ℕ) (old : IsOrder (IsBefore sets) (length sets) order) (at : IsSetPlace sets order set first) where
  -- a set that a node has is at the place, or behind a set that doesn't come before it
  has_place : (node : ℕ) → node < length sets → get_or sets node 0 ≡ set
      → (k : ℕ) × (first ≤ k) × (k < length order) × (get_or order k 0 ≡ node)
  has_place node there has =
      let (k, below, is) = Contains-place order node (old.whole node there) in
      elim (cases_lt k first) [
        | inl early ↦ absurd (before_none _ set (ap (λ n. get_or sets n 0) is ∙ has) (at.before k early))
        | inr late ↦ (k, omega arith, below, is)
      ]

  pub found : first < length order → get_or sets (get_or order first 0) 0 ≡ set
      → node_of sets set ≡ Some (get_or order first 0)
  found there has = first_is sets set (get_or order first 0) (old.inside first 0 there) has (λ node earlier same.
      let (k, h, below, is) = has_place node (omega (arith, old.inside first 0 there)) same in
      let other : k ≢ first = λ e. omega (arith, ap (λ i. get_or order i 0) e) in
      before_none _ _ (has ∙ sym same ∙ ap (λ n. get_or sets n 0) (sym is)) (old.ascends first k (omega arith) below))

  pub missed : (first < length order → get_or sets (get_or order first 0) 0 ≢ set) → node_of sets set ≡ None
  missed other = none_is sets set (λ node there same.
      let (k, h, below, is) = has_place node there same in
      let at_set : get_or sets (get_or order k 0) 0 ≡ set = ap (λ n. get_or sets n 0) is ∙ same in
      elim (cases_eq k first) [
        | inl here ↦ other (omega arith) (ap (λ i. get_or sets (get_or order i 0) 0) (sym here) ∙ at_set)
        | inr later ↦
            let before : is_lt (set_cmp (get_or sets (get_or order first 0) 0) set) ≡ true = subst (λ s. is_lt (set_cmp (get_or sets (get_or order first 0) 0) s) ≡ true) at_set (old.ascends first k (omega arith) below) in
            true≢false (sym before ∙ at.after first (omega arith) (omega arith))
      ])
