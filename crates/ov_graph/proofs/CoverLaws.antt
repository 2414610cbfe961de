-- The cover of a set.
use Rattle.std.proofs.Common.{ℕ, ◌≡◌, ◌≢◌, ◌<◌, ◌≤◌, ◌+◌, true, false, not, List, [], ◌∷◌, length, refl, sym, ◌∙◌, subst, arith, ◌⊎◌, inl, inr, true≢false}
use Rattle.std.specs.Prelude.{Contains, slice_index}
use Rattle.ov_base.specs.Sets.{empty, size, Has, union, Within, within}
use Rattle.ov_base.proofs.SetLaws.{within-Within, Within-within, empty-Has, empty_within, union-Has, union_left, union_right, union_within}
use Rattle.ov_base.proofs.SetSizes.{size-Within, size-strict, size_none}
use Rattle.ov_graph.specs.Cover.{put_if, candidates_from, larger_first, kept, cover_of}
use Rattle.ov_graph.proofs.ListLaws.{Contains-none, Contains-first, Contains-later, Contains-cases, Contains-put_if, put_if-later, nothing_in}
use Rattle.ov_graph.proofs.CandidateLaws.{IsCandidate, candidate-is, is-candidate, candidate-size, from_candidates, to_candidates, from_larger, to_larger}

module _ (sets : List ℕ) where
  -- a kept node is one of those that might be
  pub from_kept : (covered : ℕ) (nodes : List ℕ) (x : ℕ) → Contains (kept sets covered nodes) x
      → Contains nodes x
  from_kept covered [] x h = h
  from_kept covered (node ∷ nodes) x h = elim (Contains-put_if (not (within (slice_index sets node) covered)) node _ x h) [
    | inl (new, here) ↦ (0, omega arith, here)
    | inr later ↦ Contains-later node nodes x (from_kept (union covered (slice_index sets node)) nodes x later)
  ]

  -- each user of the nodes was covered, or is a user of a kept one
  pub kept-has : (covered : ℕ) (nodes : List ℕ) (n u : ℕ) → Contains nodes n
      → Has (slice_index sets n) u
      → Has covered u ⊎ ((c : ℕ) × Contains (kept sets covered nodes) c × Has (slice_index sets c) u)
  kept-has covered [] n u h one = absurd (Contains-none n h)
  kept-has covered (node ∷ nodes) n u h one = elim (Contains-cases node nodes n h) [
    | inl here ↦
        let mine : Has (slice_index sets node) u = rw here one in
        elim (within (slice_index sets node) covered) as (λ b. within (slice_index sets node) covered ≡ b → Has covered u ⊎ ((c : ℕ) × Contains (put_if (not b) node (kept sets (union covered (slice_index sets node)) nodes)) c × Has (slice_index sets c) u)) [
          | true ↦ λ t. inl (within-Within (slice_index sets node) covered t u mine)
          | false ↦ λ t. inr (node, Contains-first node _, mine)
        ] refl
    | inr later ↦ elim (kept-has (union covered (slice_index sets node)) nodes n u later one) [
      | inl before ↦ elim (union-Has covered (slice_index sets node) u before) [
        | inl old ↦ inl old
        | inr mine ↦
            elim (within (slice_index sets node) covered) as (λ b. within (slice_index sets node) covered ≡ b → Has covered u ⊎ ((c : ℕ) × Contains (put_if (not b) node (kept sets (union covered (slice_index sets node)) nodes)) c × Has (slice_index sets c) u)) [
              | true ↦ λ t. inl (within-Within (slice_index sets node) covered t u mine)
              | false ↦ λ t. inr (node, Contains-first node _, mine)
            ] refl
      ]
      | inr (c, there, has) ↦ inr (c, put_if-later (not (within (slice_index sets node) covered)) node _ c there, has)
    ]
  ]

  -- each kept node adds a user
  pub kept-few : (covered whole : ℕ) (nodes : List ℕ) → Within covered whole
      → ((n : ℕ) → Contains nodes n → Within (slice_index sets n) whole)
      → length (kept sets covered nodes) + size covered ≤ size whole
  kept-few covered whole [] inside each = omega (arith, size-Within covered whole inside)
  kept-few covered whole (node ∷ nodes) inside each =
      let more : ℕ = union covered (slice_index sets node) in
      let rest : length (kept sets more nodes) + size more ≤ size whole =
      kept-few more whole nodes (union_within covered (slice_index sets node) whole inside (each node (Contains-first node nodes))) (λ n h. each n (Contains-later node nodes n h)) in
      elim (within (slice_index sets node) covered) as (λ b. within (slice_index sets node) covered ≡ b → length (put_if (not b) node (kept sets more nodes)) + size covered ≤ size whole) [
        | true ↦ λ t. omega (arith, size-Within covered more (union_left covered (slice_index sets node)))
        | false ↦ λ t.
            let new : covered ≢ more = λ same. true≢false (sym (Within-within (slice_index sets node) covered (subst (λ s. Within (slice_index sets node) s) (sym same) (union_right covered (slice_index sets node)))) ∙ t) in
            omega (arith, size-strict covered more (union_left covered (slice_index sets node)) new)
      ] refl

-- a start is an earlier node whose set is a nonempty strict subset
pub cover-Contains : (sets : List ℕ) (set c : ℕ) → Contains (cover_of sets set) c
    → (c < length sets) × IsCandidate set (slice_index sets c)
cover-Contains sets set c h =
    let r = from_candidates set 0 sets c (from_larger sets (size set) _ c (from_kept sets empty _ c h)) in
    let here : c ≡ r.0 = omega (arith, r.2) in
    (omega (arith, r.1), rw here (candidate-is set (slice_index sets r.0) r.3))

-- each user of such a subset is a user of a start's set
pub cover-has : (sets : List ℕ) (set n u : ℕ) → n < length sets → IsCandidate set (slice_index sets n)
    → Has (slice_index sets n) u → (c : ℕ) × Contains (cover_of sets set) c × Has (slice_index sets c) u
cover-has sets set n u inside is one =
    let test = is-candidate set (slice_index sets n) is in
    let there = to_larger sets (size set) _ n (to_candidates set 0 sets n n inside (omega arith) test) (candidate-size set (slice_index sets n) test) in
    elim (kept-has sets empty _ n u there one) [ inl none ↦ absurd (empty-Has u none) | inr found ↦ found ]

-- a cover has no more starts than the set has users
pub cover-few : (sets : List ℕ) (set : ℕ) → length (cover_of sets set) ≤ size set
cover-few sets set =
    let bound = kept-few sets empty set (larger_first sets (size set) (candidates_from set 0 sets)) (empty_within set) (λ n h.
    let r = from_candidates set 0 sets n (from_larger sets (size set) _ n h) in
    let here : n ≡ r.0 = omega (arith, r.2) in
    rw here (candidate-is set (slice_index sets r.0) r.3).inside) in
    omega arith

-- the empty set and a set of one user have no cover
pub cover-none : (sets : List ℕ) (set : ℕ) → size set ≤ 1 → cover_of sets set ≡ []
cover-none sets set small = nothing_in _ (λ c h.
    let is = (cover-Contains sets set c h).1 in
    let less = size-strict (slice_index sets c) set is.inside is.strict in
    is.some (size_none (slice_index sets c) (omega arith)))
