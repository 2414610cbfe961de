-- Candidates that are put in order: those that lack the fewest users first.
use Rattle.std.proofs.Common.{ℕ, zero, suc, ◌≡◌, ◌<◌, ◌≤◌, ◌+◌, ◌-◌, Bool, true, ◌==◌, List, [], ◌∷◌, ◌++◌, length, get_or, refl, sym, ◌∙◌, ap, subst, arith, inl, inr, eq-eqb}
use Rattle.std.specs.Prelude.{All, Contains, filter, slice_index}
use Rattle.std.specs.Ordering.{nat_cmp, is_lt}
use Rattle.std.specs.List.Sorted.{IsNonDecreasingBy, IsPermutation, IsStableByKey, ties}
use Rattle.std.proofs.lemmas.Bool.{cases_eq, ne_eqb}
use Rattle.std.proofs.lemmas.Bool.Decides.{nat_tests}
use Rattle.std.proofs.lemmas.List.{map-append}
use Rattle.std.proofs.lemmas.List.Sorted.{All-permutation}
use Rattle.ov_base.specs.Sets.{empty, size}
use Rattle.ov_graph.specs.declared.covering.Candidate.{Candidate}
use Rattle.ov_graph.specs.Cover.{is_candidate, candidates_from, has_size, larger_first, kept, cover_of}
use Rattle.ov_graph.specs.Candidates.{entries, nodes_of}
use Rattle.ov_graph.proofs.ListLaws.{Contains-first, Contains-later}
use Rattle.ov_graph.proofs.CandidateLaws.{candidate-size, from_candidates}

abbrev lacks_just : ℕ → Candidate → Bool
lacks_just users c = c.lacks == users

-- the candidates that lack from this many users on, over this many numbers, the fewest first
abbrev grouped : ℕ → ℕ → List Candidate → List Candidate
grouped from zero cs = []
grouped from (suc count) cs = filter (lacks_just from) cs ++ grouped (from + 1) count cs

-- each candidate lacks at least this many users
abbrev AllLack : ℕ → List Candidate → Type 0
AllLack from cs = (k : ℕ) (d : Candidate) → k < length cs → from ≤ (get_or cs k d).lacks

none_lack : (from : ℕ) (cs : List Candidate) → AllLack (from + 1) cs → filter (lacks_just from) cs ≡ []
none_lack from [] all = refl
none_lack from (c ∷ cs) all =
    let more : from + 1 ≤ c.lacks = all 0 c (omega arith) in
    rw (ne_eqb c.lacks from (omega arith)) (none_lack from cs (λ k d h. all (suc k) d (omega arith)))

-- a candidate that lacks fewer is in no later group
group_skips : (from count : ℕ) (c : Candidate) (cs : List Candidate) → c.lacks < from
    → grouped from count (c ∷ cs) ≡ grouped from count cs
group_skips from zero c cs less = refl
group_skips from (suc count) c cs less = rw (ne_eqb c.lacks from (omega arith), group_skips (from + 1) count c cs (omega arith)) refl

rest_sorted : (c : Candidate) (cs : List Candidate)
    → IsNonDecreasingBy (λ (c : Candidate). c.lacks) (c ∷ cs)
    → IsNonDecreasingBy (λ (c : Candidate). c.lacks) cs
rest_sorted c cs sorted i j d le h = sorted (suc i) (suc j) d (omega arith) (omega arith)

abbrev InOrder : List Candidate → Type 0
InOrder cs = IsNonDecreasingBy (λ (c : Candidate). c.lacks) cs

-- each candidate lacks fewer
abbrev AllBelow : ℕ → List Candidate → Type 0
AllBelow limit cs = (k : ℕ) (d : Candidate) → k < length cs → (get_or cs k d).lacks < limit

first_group : (count from : ℕ)
    → ((cs : List Candidate) → InOrder cs → AllLack (from + 1) cs → AllBelow (from + suc count) cs → grouped (from + 1) count cs ≡ cs)
    → (cs : List Candidate) → InOrder cs → AllLack from cs → AllBelow (from + suc count) cs → grouped from (suc count) cs ≡ cs
first_group count from later [] sorted low high = later [] sorted (λ k d h. absurd (omega arith)) high
first_group count from later (c ∷ cs) sorted low high = elim (cases_eq c.lacks from) [
  | inl same ↦
      let less : c.lacks < from + 1 = omega arith in
      rw (eq-eqb c.lacks from same, group_skips (from + 1) count c cs less)
      (ap (λ r. c ∷ r) (first_group count from later cs (rest_sorted c cs sorted) (λ k d h. low (suc k) d (omega arith)) (λ k d h. high (suc k) d (omega arith))))
  | inr other ↦
      let head : from ≤ c.lacks = low 0 c (omega arith) in
      let more : AllLack (from + 1) (c ∷ cs) = λ k d h. omega (arith, sorted 0 k d (omega arith) h) in
      rw (none_lack from (c ∷ cs) more) (later (c ∷ cs) sorted more high)
]

-- candidates in order are their groups
in_groups : (count from : ℕ) (cs : List Candidate) → InOrder cs → AllLack from cs
    → AllBelow (from + count) cs → grouped from count cs ≡ cs
in_groups zero from [] sorted low high = refl
in_groups zero from (c ∷ cs) sorted low high = absurd (omega (arith, low 0 c (omega arith), high 0 c (omega arith)))
in_groups (suc count) from cs sorted low high =
    first_group count from (λ ds s l h. in_groups count (from + 1) ds s l (λ k d i. omega (arith, h k d i))) cs sorted low high

-- ---- a stable sort keeps the groups

same_filter : (p q : Candidate → Bool) (cs : List Candidate) → ((c : Candidate) → p c ≡ q c)
    → filter p cs ≡ filter q cs
same_filter p q [] same = refl
same_filter p q (c ∷ cs) same = rw (same c, same_filter p q cs same) refl

ties_just : (users : ℕ) (c : Candidate)
    → ties (λ (x y : Candidate). is_lt (nat_cmp x.lacks y.lacks)) (record { node = 0; lacks = users }) c ≡ lacks_just users c
ties_just users c = grind (arith, nat_tests)

stable_groups : (from count : ℕ) (xs ys : List Candidate)
    → IsStableByKey (λ (c : Candidate). c.lacks) nat_cmp xs ys
    → grouped from count ys ≡ grouped from count xs
stable_groups from zero xs ys stable = refl
stable_groups from (suc count) xs ys stable =
    let here : filter (lacks_just from) ys ≡ filter (lacks_just from) xs =
    sym (same_filter _ _ ys (ties_just from)) ∙ stable (record { node = 0; lacks = from }) ∙ same_filter _ _ xs (ties_just from) in
    rw (here, stable_groups (from + 1) count xs ys stable) refl

-- ---- groups by size

-- each of the nodes has a nonempty strict subset of the set
abbrev pub AreCandidates : List ℕ → ℕ → List ℕ → Type 0
AreCandidates sets set nodes = (n : ℕ) → Contains nodes n → is_candidate set (slice_index sets n) ≡ true

module _ (sets : List ℕ) (set : ℕ) where
  group_of_size : (users lacking : ℕ) (nodes : List ℕ) → AreCandidates sets set nodes
      → users + lacking ≡ size set
      → nodes_of (filter (lacks_just lacking) (entries sets set nodes)) ≡ filter (has_size sets users) nodes
  group_of_size users lacking [] are e = refl
  group_of_size users lacking (n ∷ nodes) are e =
      let less = candidate-size set (slice_index sets n) (are n (Contains-first n nodes)) in
      let rest = group_of_size users lacking nodes (λ m h. are m (Contains-later n nodes m h)) e in
      elim (cases_eq (size (slice_index sets n)) users) [
        | inl same ↦ rw (eq-eqb _ _ same, eq-eqb (size set - size (slice_index sets n)) lacking (omega arith)) (ap (λ r. n ∷ r) rest)
        | inr other ↦ rw (ne_eqb _ _ other, ne_eqb (size set - size (slice_index sets n)) lacking (omega arith)) rest
      ]

  groups_of_size : (count from : ℕ) (nodes : List ℕ) → AreCandidates sets set nodes
      → count + from ≡ size set + 1
      → nodes_of (grouped from count (entries sets set nodes)) ≡ larger_first sets count nodes
  groups_of_size zero from nodes are e = refl
  groups_of_size (suc count) from nodes are e =
      map-append (λ (c : Candidate). c.node) (filter (lacks_just from) (entries sets set nodes)) (grouped (from + 1) count (entries sets set nodes))
      ∙ rw (group_of_size count from nodes are (omega arith), groups_of_size count (from + 1) nodes are (omega arith)) refl

  -- each lacks a user, and not more than there are
  entries_lack : (nodes : List ℕ) → AreCandidates sets set nodes
      → All (λ (c : Candidate). (1 ≤ c.lacks) × (c.lacks ≤ size set)) (entries sets set nodes)
  entries_lack [] are k d h = absurd (omega arith)
  entries_lack (n ∷ nodes) are zero d h = let less = candidate-size set (slice_index sets n) (are n (Contains-first n nodes)) in (omega arith, omega arith)
  entries_lack (n ∷ nodes) are (suc k) d h = entries_lack nodes (λ m i. are m (Contains-later n nodes m i)) k d (omega arith)

-- candidates that are sorted are the larger first
pub sorted_larger_first : (sets : List ℕ) (set : ℕ) (nodes : List ℕ) (sorted : List Candidate)
    → AreCandidates sets set nodes
    → IsPermutation (entries sets set nodes) sorted → InOrder sorted → IsStableByKey (λ (c : Candidate). c.lacks) nat_cmp (entries sets set nodes) sorted
    → nodes_of sorted ≡ larger_first sets (size set) nodes
sorted_larger_first sets set nodes sorted are same order stable =
    let lack = All-permutation (λ (c : Candidate). (1 ≤ c.lacks) × (c.lacks ≤ size set)) (entries sets set nodes) sorted same (entries_lack sets set nodes are) in
    sym (ap nodes_of (in_groups (size set) 1 sorted order (λ k d h. (lack k d h).0) (λ k d h. omega (arith, (lack k d h).1))))
    ∙ ap nodes_of (stable_groups 1 (size set) (entries sets set nodes) sorted stable)
    ∙ groups_of_size sets set (size set) 1 nodes are refl

-- the nodes of sorted candidates are nodes
pub sorted_nodes : (sets : List ℕ) (set limit : ℕ) (nodes : List ℕ) (sorted : List Candidate)
    → ((n : ℕ) → Contains nodes n → n < limit)
    → IsPermutation (entries sets set nodes) sorted → All (λ (c : Candidate). c.node < limit) sorted
sorted_nodes sets set limit nodes sorted below same =
    All-permutation (λ (c : Candidate). c.node < limit) (entries sets set nodes) sorted same (each nodes below) where
      each : (nodes : List ℕ) → ((n : ℕ) → Contains nodes n → n < limit)
          → All (λ (c : Candidate). c.node < limit) (entries sets set nodes)
      each [] below k d h = absurd (omega arith)
      each (n ∷ nodes) below zero d h = below n (Contains-first n nodes)
      each (n ∷ nodes) below (suc k) d h = each nodes (λ m i. below m (Contains-later n nodes m i)) k d (omega arith)

-- ---- what becomes of the candidates that are found

are_candidates : (sets : List ℕ) (set : ℕ) → AreCandidates sets set (candidates_from set 0 sets)
are_candidates sets set n h =
    let r = from_candidates set 0 sets n h in
    let here : n ≡ r.0 = omega (arith, r.2) in
    rw here r.3

module _ (sets : List ℕ) (set : ℕ) (found sorted : List Candidate) (is : found ≡ entries sets set (candidates_from set 0 sets)) (same : IsPermutation found sorted) where
  -- the sorted candidates that are kept are the cover
  pub sorted_cover : InOrder sorted → IsStableByKey (λ (c : Candidate). c.lacks) nat_cmp found sorted
      → kept sets empty (nodes_of sorted) ≡ cover_of sets set
  sorted_cover order stable =
      ap (kept sets empty) (sorted_larger_first sets set (candidates_from set 0 sets) sorted (are_candidates sets set)
      (subst (λ xs. IsPermutation xs sorted) is same) order (subst (λ xs. IsStableByKey (λ (c : Candidate). c.lacks) nat_cmp xs sorted) is stable))

  -- each of the sorted candidates is a node
  pub sorted_inside : All (λ (c : Candidate). c.node < length sets) sorted
  sorted_inside = sorted_nodes sets set (length sets) (candidates_from set 0 sets) sorted (λ n h. let r = from_candidates set 0 sets n h in omega (arith, r.1, r.2)) (subst (λ xs. IsPermutation xs sorted) is same)
