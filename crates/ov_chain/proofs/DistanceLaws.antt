-- The distances of nodes from a root.
use Rattle.std.proofs.Common.{ℕ, zero, suc, ◌+◌, ◌≡◌, ◌≢◌, ◌<◌, ◌≤◌, true, false, cond, min, List, [], ◌∷◌, length, Option, Some, None, refl, sym, ◌∙◌, ap, arith, subst, ◌⊎◌, inl, inr, eq-eqb, true≢false}
use Rattle.std.specs.Prelude.{Contains}
use Rattle.std.proofs.lemmas.Bool.{cases_lt, eqb-true}
use Rattle.ov_tokens.specs.declared.edge.Edge.{Edge}
use Rattle.ov_graph.specs.Contents.{starts_of}
use Rattle.ov_graph.specs.Reach.{starts, Walk}
use Rattle.ov_graph.specs.Chain.{IsDistance, IsFirst}
use Rattle.ov_graph.proofs.ListLaws.{Contains-first, Contains-later, Contains-cases, Contains-none}
use Rattle.ov_graph.proofs.ReachLaws.{starts-Contains}
use Rattle.ov_chain.specs.Distances.{distance_at, IsFound, smaller, least_start, one_more, is_near, first_near}

smaller_le : (b : ℕ) (o : Option ℕ) → (k : ℕ) × (smaller (Some b) o ≡ Some k) × (k ≤ b)
smaller_le b None = (b, refl, omega arith)
smaller_le b (Some c) = (min b c, refl, omega arith)

smaller_found : (o : Option ℕ) (j : ℕ) → (k : ℕ) × (smaller o (Some j) ≡ Some k) × (k ≤ j)
smaller_found None j = (j, refl, omega arith)
smaller_found (Some b) j = (min b j, refl, omega arith)

smaller_is : (o p : Option ℕ) (k : ℕ) → smaller o p ≡ Some k → (o ≡ Some k) ⊎ (p ≡ Some k)
smaller_is None p k h = inr h
smaller_is (Some a) None k h = inl h
smaller_is (Some a) (Some b) k h = elim (cases_lt a b) [
  | inl less ↦ let e : min a b ≡ a = omega arith in inl (ap Some (sym e) ∙ h)
  | inr more ↦ let e : min a b ≡ b = omega arith in inr (ap Some (sym e) ∙ h)
]

-- the least is no larger than what was found before
least_keeps : (ds : List (Option ℕ)) (b : ℕ) (es : List Edge)
    → (k : ℕ) × (least_start ds (Some b) es ≡ Some k) × (k ≤ b)
least_keeps ds b [] = (b, refl, omega arith)
least_keeps ds b (e ∷ es) =
    let s = smaller_le b (distance_at ds e.from) in
    let r = least_keeps ds s.0 es in
    (r.0, ap (λ o. least_start ds o es) s.1 ∙ r.1, omega (arith, r.2, s.2))

-- the least is no larger than the distance of a start
least_bound : (ds : List (Option ℕ)) (best : Option ℕ) (es : List Edge) (c j : ℕ) → Contains (starts_of es) c
    → distance_at ds c ≡ Some j → (k : ℕ) × (least_start ds best es ≡ Some k) × (k ≤ j)
least_bound ds best [] c j h found = absurd (Contains-none c h)
least_bound ds best (e ∷ es) c j h found = elim (Contains-cases e.from (starts_of es) c h) [
  | inl same ↦
      let s = smaller_found best j in
      let r = least_keeps ds s.0 es in
      (r.0, ap (λ o. least_start ds (smaller best o) es) (ap (distance_at ds) same ∙ found) ∙ ap (λ o. least_start ds o es) s.1 ∙ r.1, omega (arith, r.2, s.2))
  | inr later ↦ least_bound ds (smaller best (distance_at ds e.from)) es c j later found
]

-- the least distance is the best from before or that of a start
least_from : (ds : List (Option ℕ)) (best : Option ℕ) (es : List Edge) (k : ℕ) → least_start ds best es ≡ Some k
    → (best ≡ Some k) ⊎ ((c : ℕ) × Contains (starts_of es) c × (distance_at ds c ≡ Some k))
least_from ds best [] k h = inl h
least_from ds best (e ∷ es) k h = elim (least_from ds (smaller best (distance_at ds e.from)) es k h) [
  | inl before ↦ elim (smaller_is best (distance_at ds e.from) k before) [ inl old ↦ inl old | inr new ↦ inr (e.from, Contains-first e.from (starts_of es), new) ]
  | inr later ↦ inr (later.0, Contains-later e.from (starts_of es) later.0 later.1, later.2)
]

found_some : (sets : List ℕ) (root c m : ℕ) (o : Option ℕ) → IsFound sets root c o → Walk sets root c m
    → (j : ℕ) × (o ≡ Some j) × (j ≤ m)
found_some sets root c m None f w = absurd (f (m, w))
found_some sets root c m (Some j) f w = (j, refl, f.0.least m w)

-- what was found of the start of each of these edges is right
abbrev pub StartsAreFound : List ℕ → ℕ → List (Option ℕ) → List Edge → Type 0
StartsAreFound sets root ds es = (from : ℕ) → Contains (starts_of es) from → IsFound sets root from (distance_at ds from)

-- one edge more than the least distance of a start is the node's distance
pub distance_beyond : (sets : List ℕ) (root n : ℕ) (ds : List (Option ℕ)) (es : List Edge) → root ≢ n
    → n < length sets → starts_of es ≡ starts sets n → StartsAreFound sets root ds es
    → IsFound sets root n (one_more (least_start ds None es))
distance_beyond sets root n ds es other inside edges right = go (least_start ds None es) refl where
  least : (c m : ℕ) → Contains (starts sets n) c → Walk sets root c m
      → (k : ℕ) × (least_start ds None es ≡ Some k) × (k ≤ m)
  least c m there w =
      let is : Contains (starts_of es) c = subst (λ (cs : List ℕ). Contains cs c) (sym edges) there in
      let f = found_some sets root c m (distance_at ds c) (right c is) w in
      let l = least_bound ds None es c f.0 is f.1 in
      (l.0, l.1, omega (arith, l.2, f.2))

  none : (m : ℕ) → Walk sets root n m → least_start ds None es ≡ None → ⊥
  none zero w e = other w
  none (suc m) w e = let l = least w.0 m w.2.1 w.1 in cc (e, l.1)

  bound : (k m : ℕ) → least_start ds None es ≡ Some k → Walk sets root n m → k + 1 ≤ m
  bound k zero e w = absurd (other w)
  bound k (suc m) e w =
      let l = least w.0 m w.2.1 w.1 in
      let same : k ≡ l.0 = cc (e, l.1) in
      omega (arith, l.2)

  some : (k : ℕ) → least_start ds None es ≡ Some k → IsFound sets root n (Some (k + 1))
  some k e = elim (least_from ds None es k e) [
    | inl never ↦ absurd (cc)
    | inr start ↦
        let c : ℕ = start.0 in
        let there : Contains (starts sets n) c = subst (λ (cs : List ℕ). Contains cs c) edges start.1 in
        let below : c < n = (starts-Contains sets n c there).0 in
        let f : IsFound sets root c (Some k) = subst (λ o. IsFound sets root c o) start.2 (right c start.1) in
        let w : Walk sets root n (suc k) = (c, f.0.walk, (inside, there)) in
        let step : suc k ≡ k + 1 = omega arith in
        (record { walk = subst (λ j. Walk sets root n j) step w; least = λ m v. bound k m e v }, omega (arith, f.1, below))
  ]

  go : (o : Option ℕ) → least_start ds None es ≡ o → IsFound sets root n (one_more o)
  go None e = λ (m, w). none m w e
  go (Some k) e = some k e

-- distances are unique
same_distance : (sets : List ℕ) (root c j k : ℕ) → IsDistance sets root c j → IsDistance sets root c k → j ≡ k
same_distance sets root c j k p q = omega (arith, p.least k q.walk, q.least j p.walk)

near_true : (sets : List ℕ) (root c k : ℕ) (o : Option ℕ) → IsFound sets root c o → is_near o k ≡ true
    → IsDistance sets root c k
near_true sets root c k None f h = absurd (cc)
near_true sets root c k (Some j) f h = subst (λ i. IsDistance sets root c i) (eqb-true j k h) f.0

near_false : (sets : List ℕ) (root c k : ℕ) (o : Option ℕ) → IsFound sets root c o → is_near o k ≡ false
    → IsDistance sets root c k → ⊥
near_false sets root c k None f h d = f (k, d.walk)
near_false sets root c k (Some j) f h d = true≢false (sym (eq-eqb j k (same_distance sets root c j k f.0 d)) ∙ h)

pub record IsFirstStart (sets : List ℕ) (root k : ℕ) (es : List Edge) (edge : Edge) : Type 0 where
  pub first : IsFirst sets root k es edge
  pub there : Contains (starts_of es) edge.from
  pub near : IsDistance sets root edge.from k

-- the edge that `first_near` finds is the first
pub first_is : (sets : List ℕ) (root k : ℕ) (ds : List (Option ℕ)) (es : List Edge) (edge : Edge)
    → StartsAreFound sets root ds es → first_near ds k es ≡ Some edge → IsFirstStart sets root k es edge
first_is sets root k ds [] edge right h = absurd (cc)
first_is sets root k ds (e ∷ es) edge right h =
    let f : IsFound sets root e.from (distance_at ds e.from) = right e.from (Contains-first e.from (starts_of es)) in
    elim (is_near (distance_at ds e.from) k) as (λ b. is_near (distance_at ds e.from) k ≡ b → cond b (Some e) (first_near ds k es) ≡ Some edge → IsFirstStart sets root k (e ∷ es) edge) [
      | true ↦ λ t s.
          let same : edge ≡ e = cc (s) in
          let d = near_true sets root e.from k (distance_at ds e.from) f t in
          record {
            first = inl (d, same);
            there = subst (λ (x : Edge). Contains (starts_of (e ∷ es)) x.from) (sym same) (Contains-first e.from (starts_of es));
            near = subst (λ (x : Edge). IsDistance sets root x.from k) (sym same) d;
          }
      | false ↦ λ t s.
          let r = first_is sets root k ds es edge (λ c i. right c (Contains-later e.from (starts_of es) c i)) s in
          record { first = inr (near_false sets root e.from k (distance_at ds e.from) f t, r.first); there = Contains-later e.from (starts_of es) edge.from r.there; near = r.near }
    ] refl h

first_none : (sets : List ℕ) (root k : ℕ) (ds : List (Option ℕ)) (es : List Edge)
    → StartsAreFound sets root ds es → first_near ds k es ≡ None → (c : ℕ) → Contains (starts_of es) c
    → IsDistance sets root c k → ⊥
first_none sets root k ds [] right h c i d = Contains-none c i
first_none sets root k ds (e ∷ es) right h c i d =
    let f : IsFound sets root e.from (distance_at ds e.from) = right e.from (Contains-first e.from (starts_of es)) in
    elim (is_near (distance_at ds e.from) k) as (λ b. is_near (distance_at ds e.from) k ≡ b → cond b (Some e) (first_near ds k es) ≡ None → ⊥) [
      | true ↦ λ t s. cc (s)
      | false ↦ λ t s. elim (Contains-cases e.from (starts_of es) c i) [
        | inl same ↦ near_false sets root e.from k (distance_at ds e.from) f t (subst (λ x. IsDistance sets root x k) (sym same) d)
        | inr later ↦ first_none sets root k ds es (λ x j. right x (Contains-later e.from (starts_of es) x j)) s c later d
      ]
    ] refl h

-- a node that lies away from the root has an edge from one that lies one nearer
pub first_there : (sets : List ℕ) (root n k : ℕ) (ds : List (Option ℕ)) (es : List Edge)
    → starts_of es ≡ starts sets n → StartsAreFound sets root ds es → IsDistance sets root n (suc k)
    → first_near ds k es ≡ None → ⊥
first_there sets root n k ds es edges right d none =
    let w = d.walk in
    let nearer : IsDistance sets root w.0 k = record { walk = w.1; least = λ m v. let longer : Walk sets root n (suc m) = (w.0, v, w.2) in omega (arith, d.least (suc m) longer) } in
    first_none sets root k ds es right none w.0 (subst (λ (cs : List ℕ). Contains cs w.0) (sym edges) w.2.1) nearer
