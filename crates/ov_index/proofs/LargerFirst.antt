-- Candidates in the order of an indexed graph are those of a cover, larger ones first.
use Rattle.std.proofs.Common.{ℕ, zero, suc, ◌≡◌, ◌<◌, ◌+◌, ◌-◌, Bool, true, false, cond, List, [], ◌∷◌, length, get_or, drop, refl, sym, ◌∙◌, ap, subst, arith, inl, inr, eqb-true, length-drop}
use Rattle.std.specs.Prelude.{Contains, filter}
use Rattle.std.proofs.lemmas.Bool.{cases_lt}
use Rattle.std.proofs.lemmas.List.{get_or-drop, get_or_default}
use Rattle.std.proofs.lemmas.List.Elements.{Contains-append_cases}
use Rattle.ov_base.specs.Sets.{size}
use Rattle.ov_graph.specs.Cover.{put_if, is_candidate, candidates_from, has_size, larger_first}
use Rattle.ov_graph.proofs.ListLaws.{Contains-none, Contains-cases, Contains-later, Contains-place, Contains-filter, filter-Contains, place-Contains}
use Rattle.ov_graph.proofs.CandidateLaws.{candidate-size, from_candidates, to_candidates, from_larger, to_larger}
use Rattle.ov_index.specs.Orders.{IsLarger, IsOrder, IsOrderBelow, IsSizePlace}
use Rattle.ov_index.proofs.SortedLists.{Sorted, ascends-Sorted, filter-Sorted, append-Sorted, one_sorted}

-- an item that is kept passes the test
pub kept_passes : (p : ℕ → Bool) (xs : List ℕ) (x : ℕ) → Contains (filter p xs) x → p x ≡ true
kept_passes p [] x h = absurd (Contains-none x h)
kept_passes p (y ∷ xs) x h = elim (p y) as (λ b. p y ≡ b → Contains (cond b (y ∷ filter p xs) (filter p xs)) x → p x ≡ true) [
  | true ↦ λ test there. elim (Contains-cases y (filter p xs) x there) [
    | inl here ↦ subst (λ n. p n ≡ true) here test
    | inr later ↦ kept_passes p xs x later
  ]
  | false ↦ λ test there. kept_passes p xs x there
] refl h

-- ---- candidates are found by number

module _ (set : ℕ) where
  put-Sorted : (b : Bool) (node : ℕ) (nodes : List ℕ) → ((n : ℕ) → Contains nodes n → node < n)
      → Sorted (λ m n. m < n) nodes → Sorted (λ m n. m < n) (put_if b node nodes)
  put-Sorted true node nodes later up = (later, up)
  put-Sorted false node nodes later up = up

  by_number : (node : ℕ) (sets : List ℕ) → Sorted (λ m n. m < n) (candidates_from set node sets)
  by_number node [] = tt
  by_number node (earlier ∷ sets) = put-Sorted (is_candidate set earlier) node (candidates_from set (node + 1) sets)
      (λ n there. let r = from_candidates set (node + 1) sets n there in omega (arith, r.2))
      (by_number (node + 1) sets)

module _ (sets : List ℕ) where
  -- nodes of one size are in the order of a cover where they are by number
  same_size : (users : ℕ) (nodes : List ℕ) → Sorted (λ m n. m < n) nodes
      → ((n : ℕ) → Contains nodes n → size (get_or sets n 0) ≡ users) → Sorted (IsLarger sets) nodes
  same_size users [] up all = tt
  same_size users (node ∷ nodes) up all = (
    λ n there. let e = all node (0, omega arith, refl) in let f = all n (Contains-later node nodes n there) in (omega arith, λ same. up.0 n there),
    same_size users nodes up.1 (λ n there. all n (Contains-later node nodes n there)),
  )

  -- nodes that come later have smaller sets
  larger-size : (users : ℕ) (nodes : List ℕ) (x : ℕ) → Contains (larger_first sets users nodes) x
      → size (get_or sets x 0) < users
  larger-size zero nodes x h = absurd (Contains-none x h)
  larger-size (suc users) nodes x h = elim (Contains-append_cases (filter (has_size sets users) nodes) (larger_first sets users nodes) x h) [
    | inl here ↦ let e = eqb-true _ _ (kept_passes (has_size sets users) nodes x here) in omega arith
    | inr later ↦ let less = larger-size users nodes x later in omega arith
  ]

  larger-Sorted : (users : ℕ) (nodes : List ℕ) → Sorted (λ m n. m < n) nodes
      → Sorted (IsLarger sets) (larger_first sets users nodes)
  larger-Sorted zero nodes up = tt
  larger-Sorted (suc users) nodes up =
      let size_of = λ (n : ℕ) (h : Contains (filter (has_size sets users) nodes) n). eqb-true _ _ (kept_passes (has_size sets users) nodes n h) in
      append-Sorted (IsLarger sets) (filter (has_size sets users) nodes) (larger_first sets users nodes)
      (same_size users (filter (has_size sets users) nodes) (filter-Sorted (λ m n. m < n) (has_size sets users) nodes up) size_of)
      (larger-Sorted users nodes up)
      (λ m n hm hn. let e = size_of m hm in let less = larger-size users nodes n hn in (omega arith, λ same. absurd (omega arith)))

  larger_none : (x : ℕ) → IsLarger sets x x → ⊥
  larger_none x is = let less = is.1 (omega arith) in omega arith

  larger_through : (x y z : ℕ) → IsLarger sets x y → IsLarger sets y z → IsLarger sets x z
  larger_through x y z p q = (omega (arith, p.0, q.0), λ same. let m = p.1 (omega (arith, q.0)) in let n = q.1 (omega (arith, p.0)) in omega arith)

-- whether a node's set is a candidate
abbrev pub candidate_at : List ℕ → ℕ → ℕ → Bool
candidate_at sets set node = is_candidate set (get_or sets node 0)

-- the candidates of an order are those of the cover, in the order of the cover
pub in_cover_order : (sets : List ℕ) (set : ℕ) (order : List ℕ) → IsOrderBelow sets set order
    → filter (candidate_at sets set) order ≡ larger_first sets (size set) (candidates_from set 0 sets)
in_cover_order sets set order below =
    one_sorted (IsLarger sets) (larger_none sets) (larger_through sets) _ _
    (filter-Sorted (IsLarger sets) (candidate_at sets set) order (ascends-Sorted (IsLarger sets) order below.ascends))
    (larger-Sorted sets (size set) (candidates_from set 0 sets) (by_number set 0 sets))
    (λ n there.
    let test = kept_passes (candidate_at sets set) order n there in
    let (k, inside, is) = Contains-place order n (Contains-filter (candidate_at sets set) order n there) in
    let few : n < length sets = subst (λ m. m < length sets) is (below.inside k 0 inside) in
    to_larger sets (size set) _ n (to_candidates set 0 sets n n few (omega arith) test) (candidate-size set (get_or sets n 0) test))
    (λ n there.
    let r = from_candidates set 0 sets n (from_larger sets (size set) _ n there) in
    let here : n ≡ r.0 = omega (arith, r.2) in
    let test : candidate_at sets set n ≡ true = subst (λ m. candidate_at sets set m ≡ true) (sym here) r.3 in
    filter-Contains (candidate_at sets set) order n (below.whole n (omega (arith, r.1)) test) test)

-- what comes from the place of a size on has all candidates of a set of the size
pub order_below : (sets : List ℕ) (set : ℕ) (order : List ℕ) (first : ℕ)
    → IsOrder (IsLarger sets) (length sets) order → IsSizePlace sets order (size set) first
    → IsOrderBelow sets set (drop first order)
order_below sets set order first old at =
    let long = length-drop first order in
    record {
      inside = λ k d h. subst (λ n. n < length sets) (sym (get_or-drop first order k d)) (old.inside (first + k) d (omega arith));
      smaller = λ k d h. subst (λ n. size (get_or sets n 0) < size set) (get_or_default order (first + k) 0 d (omega arith) ∙ sym (get_or-drop first order k d)) (at.after (first + k) (omega arith) (omega arith));
      whole = λ node there test.
          let (k, inside, is) = Contains-place order node (old.whole node there) in
          let less = candidate-size set (get_or sets node 0) test in
          elim (cases_lt k first) [
            | inl early ↦ absurd (omega (arith, at.before k early, ap (λ n. size (get_or sets n 0)) is))
            | inr late ↦
                let e : first + (k - first) ≡ k = omega arith in
                place-Contains (drop first order) (k - first) node (omega arith) (get_or-drop first order (k - first) 0 ∙ ap (λ n. get_or order n 0) e ∙ is)
          ];
      ascends = λ i j less h.
          subst (λ n. IsLarger sets (get_or (drop first order) i 0) n) (sym (get_or-drop first order j 0))
          (subst (λ n. IsLarger sets n (get_or order (first + j) 0)) (sym (get_or-drop first order i 0))
          (old.ascends (first + i) (first + j) (omega arith) (omega arith)));
    }
