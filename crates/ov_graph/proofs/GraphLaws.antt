-- A graph with one set more.
use Rattle.std.proofs.Common.{ℕ, suc, zero, ◌+◌, ◌≤◌, ◌<◌, ◌≡◌, ◌≢◌, List, [], ◌∷◌, ◌++◌, length, take, get_or, refl, sym, ◌∙◌, ap, arith, subst, inl, inr, true≢false, length-append}
use Rattle.std.specs.Prelude.{IsTrue, Some, None}
use Rattle.std.proofs.lemmas.Bool.{cases_eq}
use Rattle.std.proofs.lemmas.List.{length-map, take-append-le, take_all, get_or_append_left}
use Rattle.ov_base.specs.Sets.{size}
use Rattle.ov_tokens.specs.declared.token.Token.{Token}
use Rattle.ov_tokens.specs.declared.edge.Edge.{Edge}
use Rattle.ov_graph.specs.declared.cover.Cover.{Cover}
use Rattle.ov_graph.specs.Cover.{cover_of}
use Rattle.ov_graph.specs.Reach.{IsGrown, IsRooted}
use Rattle.ov_graph.specs.Contents.{joined, starts_of, node_of, planned, plan_of, IsGraph}
use Rattle.ov_graph.proofs.CoverLaws.{cover-few, cover-none}

-- the item at the end of a list
pub last_item : {X : Type 0} (xs : List X) (y : X) (n : ℕ) (d : X) → n ≡ length xs
    → get_or (xs ++ y ∷ []) n d ≡ y
last_item [] y n d h = rw h refl
last_item (x ∷ xs) y n d h = rw h (last_item xs y (length xs) d refl)

take_front : {X : Type 0} (xs ys : List X) → take (length xs) (xs ++ ys) ≡ xs
take_front xs ys = take-append-le (length xs) xs ys (omega arith) ∙ take_all (length xs) xs (omega arith)

-- ---- edges of starts and tokens

pub joined-length : (starts : List ℕ) (tokens : List Token) → length tokens ≡ length starts
    → length (joined starts tokens) ≡ length starts
joined-length [] tokens h = refl
joined-length (s ∷ starts) [] h = absurd (omega arith)
joined-length (s ∷ starts) (t ∷ tokens) h = ap suc (joined-length starts tokens (omega arith))

pub starts_of-joined : (starts : List ℕ) (tokens : List Token) → length tokens ≡ length starts
    → starts_of (joined starts tokens) ≡ starts
starts_of-joined [] tokens h = refl
starts_of-joined (s ∷ starts) [] h = absurd (omega arith)
starts_of-joined (s ∷ starts) (t ∷ tokens) h = ap (λ r. s ∷ r) (starts_of-joined starts tokens (omega arith))

pub joined-more : (starts : List ℕ) (tokens : List Token) (n : ℕ) (d : Token) → n < length starts
    → n < length tokens
    → joined (take (n + 1) starts) (take (n + 1) tokens) ≡ joined (take n starts) (take n tokens) ++ record { from = get_or starts n 0; token = get_or tokens n d } ∷ []
joined-more [] tokens n d h k = absurd (omega arith)
joined-more (s ∷ starts) [] n d h k = absurd (omega arith)
joined-more (s ∷ starts) (t ∷ tokens) zero d h k = refl
joined-more (s ∷ starts) (t ∷ tokens) (suc n) d h k =
    let e : suc n + 1 ≡ suc (n + 1) = omega arith in
    rw e (ap (λ r. record { from = s; token = t } ∷ r) (joined-more starts tokens n d (omega arith) (omega arith)))

-- ---- what a plan says

-- a fresh set is no node's, and its starts are its cover
pub fresh_plan : (sets : List ℕ) (set : ℕ) (cover : Cover) → cover ≡ plan_of sets set
    → IsTrue cover.fresh → (node_of sets set ≡ None) × (cover.from ≡ cover_of sets set)
fresh_plan sets set cover is fresh =
    let by_node = elim (node_of sets set) as (λ o. IsTrue (planned o sets set).fresh → (o ≡ None) × ((planned o sets set).from ≡ cover_of sets set)) [
      | Some node ↦ λ h. absurd (true≢false (sym h))
      | None ↦ λ h. (refl, refl)
    ] (subst (λ (c : Cover). IsTrue c.fresh) is fresh) in
    (by_node.0, ap (λ (c : Cover). c.from) is ∙ by_node.1)

-- a plan has no more starts than the set has users
pub plan-few : (sets : List ℕ) (set : ℕ) → length (plan_of sets set).from ≤ size set
plan-few sets set = elim (node_of sets set) as (λ o. length (planned o sets set).from ≤ size set) [ Some node ↦ omega arith | None ↦ cover-few sets set ]

-- ---- the edges into a node

module _ (sets : List ℕ) (edges : List (List Edge)) (graph : IsGraph sets edges) where
  pub edges-few : (node : ℕ) → node < length sets
      → length (get_or edges node []) ≤ size (get_or sets node 0)
  edges-few node h =
      omega (arith, length-map (get_or edges node []) (λ (e : Edge). e.from), ap length (graph.covers node h), cover-few (take node sets) (get_or sets node 0))

  pub edges-none : (node : ℕ) → node < length sets → size (get_or sets node 0) ≤ 1
      → get_or edges node [] ≡ []
  edges-none node h small = no_edges (get_or edges node []) (graph.covers node h ∙ cover-none (take node sets) (get_or sets node 0) small) where
    no_edges : (es : List Edge) → starts_of es ≡ [] → es ≡ []
    no_edges [] e = refl
    no_edges (e ∷ es) h = absurd (cc)

-- ---- one set more

module _ (sets : List ℕ) (set : ℕ) (new : (j : ℕ) → j < length sets → get_or sets j 0 ≢ set) where
  last : (j : ℕ) → j ≡ length sets → get_or (sets ++ set ∷ []) j 0 ≡ set
  last j h = last_item sets set j 0 h

  old : (j : ℕ) → j < length sets → get_or (sets ++ set ∷ []) j 0 ≡ get_or sets j 0
  old j h = get_or_append_left sets (set ∷ []) 0 j h

  long : length (sets ++ set ∷ []) ≡ length sets + 1
  long = length-append sets (set ∷ [])

  distinct_more : ((m n : ℕ) → m < length sets → n < length sets → get_or sets m 0 ≡ get_or sets n 0 → m ≡ n) → (m n : ℕ) → m < length (sets ++ set ∷ []) → n < length (sets ++ set ∷ []) → get_or (sets ++ set ∷ []) m 0 ≡ get_or (sets ++ set ∷ []) n 0 → m ≡ n
  distinct_more distinct m n h k same = elim (cases_eq m (length sets)) [
    | inl m_last ↦ elim (cases_eq n (length sets)) [
      | inl n_last ↦ m_last ∙ sym n_last
      | inr n_old ↦
          let below : n < length sets = omega (arith, long) in
          absurd (new n below (sym (old n below) ∙ sym same ∙ last m m_last))
    ]
    | inr m_old ↦
        let below : m < length sets = omega (arith, long) in
        elim (cases_eq n (length sets)) [
          | inl n_last ↦ absurd (new m below (sym (old m below) ∙ same ∙ last n n_last))
          | inr n_old ↦
              let under : n < length sets = omega (arith, long) in
              distinct m n below under (sym (old m below) ∙ same ∙ old n under)
        ]
  ]

  pub grown_more : IsGrown sets → IsRooted sets set → IsGrown (sets ++ set ∷ [])
  grown_more grown roots = record {
    distinct = distinct_more grown.distinct;
    rooted = λ n h. elim (cases_eq n (length sets)) [
      | inl n_last ↦ rw (n_last, last_item sets set (length sets) 0 refl, take_front sets (set ∷ [])) roots
      | inr n_old ↦
          let below : n < length sets = omega (arith, long) in
          rw (old n below, take-append-le n sets (set ∷ []) (omega arith)) (grown.rooted n below)
    ];
  }

  pub graph_more : (edges : List (List Edge)) (starts : List ℕ) (tokens : List Token)
      → IsGraph sets edges → IsRooted sets set → starts ≡ cover_of sets set
      → length tokens ≡ length starts → IsGraph (sets ++ set ∷ []) (edges ++ joined starts tokens ∷ [])
  graph_more edges starts tokens graph roots is many = record {
    grown = grown_more graph.grown roots;
    rows = omega (arith, length-append edges (joined starts tokens ∷ []), graph.rows, long);
    covers = λ n h. elim (cases_eq n (length sets)) [
      | inl n_last ↦ rw (n_last, last_item edges (joined starts tokens) (length sets) [] (sym graph.rows), starts_of-joined starts tokens many, last_item sets set (length sets) 0 refl, take_front sets (set ∷ [])) is
      | inr n_old ↦
          let below : n < length sets = omega (arith, long) in
          rw (get_or_append_left edges (joined starts tokens ∷ []) [] n (omega (arith, graph.rows)), old n below, take-append-le n sets (set ∷ []) (omega arith)) (graph.covers n below)
    ];
  }
