-- The steps of the loop that keeps candidates.
use Rattle.std.proofs.Common.{ℕ, ◌≡◌, ◌≢◌, ◌<◌, ◌+◌, Bool, true, false, List, [], ◌∷◌, ◌++◌, length, get_or, drop, refl, sym, ◌∙◌, ap, arith, append_assoc, add-one, true≢false}
use Rattle.std.specs.Prelude.{Contains, filter}
use Rattle.std.proofs.Math.Seq.{drop-cons}
use Rattle.std.proofs.lemmas.List.{append-nil}
use Rattle.ov_base.specs.Sets.{empty, size, union, within, Within}
use Rattle.ov_base.proofs.SetLaws.{within-Within, Within-within, empty_within, union_within_left}
use Rattle.ov_graph.specs.Cover.{is_candidate, kept, cover_of}
use Rattle.ov_graph.proofs.CandidateLaws.{candidate-is, is-candidate, outside_is_none}
use Rattle.ov_graph.proofs.ListLaws.{Contains-first, Contains-later}
use Rattle.ov_index.proofs.LargerFirst.{candidate_at, kept_passes}

-- where each user is covered, no node is kept
kept_none : (all : List ℕ) (covered : ℕ) (nodes : List ℕ)
    → ((n : ℕ) → Contains nodes n → Within (get_or all n 0) covered) → kept all covered nodes ≡ []
kept_none all covered [] each = refl
kept_none all covered (node ∷ nodes) each =
    let here = each node (Contains-first node nodes) in
    rw (Within-within (get_or all node 0) covered here, union_within_left (get_or all node 0) covered here)
    (kept_none all covered nodes (λ n there. each n (Contains-later node nodes n there)))

-- the candidates from a place on
abbrev pub ahead : List ℕ → ℕ → List ℕ → ℕ → List ℕ
ahead all set order i = filter (candidate_at all set) (drop i order)

-- a cover is whole where it has each user of the set
pub whole_cover : (all : List ℕ) (set : ℕ) (order : List ℕ) (i : ℕ) (from : List ℕ) (covered : ℕ)
    → covered ≡ set → from ++ kept all covered (ahead all set order i) ≡ cover_of all set
    → from ≡ cover_of all set
whole_cover all set order i from covered same so_far =
    let none = kept_none all covered (ahead all set order i) (λ n there.
    let test = kept_passes (candidate_at all set) (drop i order) n there in
    rw same (candidate-is set (get_or all n 0) test).inside) in
    sym (append-nil from) ∙ ap (λ r. from ++ r) (sym none) ∙ so_far

module _ (all : List ℕ) (set : ℕ) (order : List ℕ) (i node earlier : ℕ) (covered covered2 : ℕ) (from from2 : List ℕ) (there : i < length order) (here : get_or order i 0 ≡ node) (is : earlier ≡ get_or all node 0) where
  next : drop i order ≡ node ∷ drop (i + 1) order
  next = rw (add-one, ← here) (drop-cons order i 0 there)

  with_it : is_candidate set earlier ≡ true → ahead all set order i ≡ node ∷ ahead all set order (i + 1)
  with_it test = rw (next, ← is, test) refl

  without_it : is_candidate set earlier ≡ false → ahead all set order i ≡ ahead all set order (i + 1)
  without_it test = rw (next, ← is, test) refl

  -- a candidate that covers a user more
  pub kept_step : size earlier < size set → within earlier set ≡ true → within earlier covered ≡ false
      → from2 ≡ from ++ node ∷ [] → covered2 ≡ union covered earlier
      → from2 ++ kept all covered2 (ahead all set order (i + 1)) ≡ from ++ kept all covered (ahead all set order i)
  kept_step less inside new more grown =
      let some : earlier ≢ empty = λ e. true≢false (sym (Within-within earlier covered (rw e (empty_within covered))) ∙ new) in
      let strict : earlier ≢ set = λ e. omega (arith, ap size e) in
      let test = is-candidate set earlier (record { some = some; inside = within-Within earlier set inside; strict = strict }) in
      rw (with_it test, ← is, new, more, grown) (append_assoc from _ _)

  -- a node that isn't within the set
  pub outside_step : within earlier set ≡ false → from2 ≡ from → covered2 ≡ covered
      → from2 ++ kept all covered2 (ahead all set order (i + 1)) ≡ from ++ kept all covered (ahead all set order i)
  outside_step out same still = rw (without_it (outside_is_none set earlier out), same, still) refl

  -- a node whose users are covered
  pub covered_step : within earlier covered ≡ true → from2 ≡ from → covered2 ≡ covered
      → from2 ++ kept all covered2 (ahead all set order (i + 1)) ≡ from ++ kept all covered (ahead all set order i)
  covered_step done same still = by_test (is_candidate set earlier) refl where
    by_test : (b : Bool) → is_candidate set earlier ≡ b
        → from2 ++ kept all covered2 (ahead all set order (i + 1)) ≡ from ++ kept all covered (ahead all set order i)
    by_test true test = rw (with_it test, ← is, done, same, still, union_within_left earlier covered (within-Within earlier covered done)) refl
    by_test false test = rw (without_it test, same, still) refl
