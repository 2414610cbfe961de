-- The candidates of a cover.
use Rattle.std.proofs.Common.{ℕ, zero, suc, ◌≡◌, ◌≢◌, ◌<◌, ◌+◌, Bool, true, false, not, ◌&&◌, ◌==◌, List, [], ◌∷◌, length, refl, sym, ◌∙◌, ap, arith, inl, inr, eq-eqb, true≢false}
use Rattle.std.specs.Prelude.{Contains, filter, slice_index}
use Rattle.std.proofs.lemmas.Bool.{cases_eq, ne_eqb}
use Rattle.std.proofs.lemmas.List.Elements.{Contains-append_left, Contains-append_right, Contains-append_cases}
use Rattle.ov_base.specs.Sets.{empty, size, Within, within}
use Rattle.ov_base.proofs.SetLaws.{within-Within, Within-within}
use Rattle.ov_base.proofs.SetSizes.{size-empty, size-strict, size_none}
use Rattle.ov_graph.specs.Cover.{is_candidate, candidates_from, has_size, larger_first}
use Rattle.ov_graph.proofs.ListLaws.{Contains-none, Contains-put_if, put_if-first, put_if-later, Contains-filter, filter-Contains}

-- what a candidate is
pub record IsCandidate (set earlier : ℕ) : Type 0 where
  pub some : earlier ≢ empty
  pub inside : Within earlier set
  pub strict : earlier ≢ set

and_both : (a b c : Bool) → (a && b && c) ≡ true → (a ≡ true) × (b ≡ true) × (c ≡ true)
and_both true true true h = (refl, refl, refl)
and_both true true false h = absurd (true≢false (sym h))
and_both true false c h = absurd (true≢false (sym h))
and_both false b c h = absurd (true≢false (sym h))

not_equal : (a b : ℕ) → not (a == b) ≡ true → a ≢ b
not_equal a b h e = true≢false (sym h ∙ ap not (eq-eqb a b e))

pub candidate-is : (set earlier : ℕ) → is_candidate set earlier ≡ true → IsCandidate set earlier
candidate-is set earlier h =
    let parts = and_both (not (earlier == empty)) (within earlier set) (not (earlier == set)) h in
    record {
      some = not_equal earlier empty parts.0;
      inside = within-Within earlier set parts.1;
      strict = not_equal earlier set parts.2;
    }

pub is-candidate : (set earlier : ℕ) → IsCandidate set earlier → is_candidate set earlier ≡ true
is-candidate set earlier c = rw (ne_eqb _ _ c.some, Within-within _ _ c.inside, ne_eqb _ _ c.strict) refl

-- how a program tells what is none
pub empty_is_none : (set earlier : ℕ) → size earlier ≡ 0 → is_candidate set earlier ≡ false
empty_is_none set earlier h = rw (eq-eqb _ _ (size_none earlier h)) refl

pub outside_is_none : (set earlier : ℕ) → within earlier set ≡ false → is_candidate set earlier ≡ false
outside_is_none set earlier h = elim (earlier == empty) as (λ b. (not b && within earlier set && not (earlier == set)) ≡ false) [ true ↦ refl | false ↦ rw h refl ]

-- a candidate has fewer users than the set
pub candidate-size : (set earlier : ℕ) → is_candidate set earlier ≡ true → size earlier < size set
candidate-size set earlier h = let c = candidate-is set earlier h in size-strict earlier set c.inside c.strict

-- ---- where the candidates are

pub from_candidates : (set node : ℕ) (sets : List ℕ) (x : ℕ)
    → Contains (candidates_from set node sets) x
    → (k : ℕ) × (k < length sets) × (x ≡ node + k) × (is_candidate set (slice_index sets k) ≡ true)
from_candidates set node [] x h = absurd (Contains-none x h)
from_candidates set node (earlier ∷ sets) x h = elim (Contains-put_if (is_candidate set earlier) node (candidates_from set (node + 1) sets) x h) [
  | inl (is, here) ↦ (0, omega arith, omega arith, is)
  | inr later ↦ let r = from_candidates set (node + 1) sets x later in (suc r.0, omega (arith, r.1), omega (arith, r.2), r.3)
]

pub to_candidates : (set node : ℕ) (sets : List ℕ) (k x : ℕ) → k < length sets → x ≡ node + k
    → is_candidate set (slice_index sets k) ≡ true
    → Contains (candidates_from set node sets) x
to_candidates set node [] k x h e is = absurd (omega arith)
to_candidates set node (earlier ∷ sets) zero x h e is =
    let here : x ≡ node = omega arith in
    rw here (put_if-first (is_candidate set earlier) node (candidates_from set (node + 1) sets) is)
to_candidates set node (earlier ∷ sets) (suc k) x h e is =
    put_if-later (is_candidate set earlier) node _ x (to_candidates set (node + 1) sets k x (omega arith) (omega arith) is)

-- ---- larger ones first

pub from_larger : (sets : List ℕ) (users : ℕ) (nodes : List ℕ) (x : ℕ)
    → Contains (larger_first sets users nodes) x → Contains nodes x
from_larger sets zero nodes x h = absurd (Contains-none x h)
from_larger sets (suc users) nodes x h = elim (Contains-append_cases (filter (has_size sets users) nodes) (larger_first sets users nodes) x h) [
  | inl here ↦ Contains-filter (has_size sets users) nodes x here
  | inr later ↦ from_larger sets users nodes x later
]

pub to_larger : (sets : List ℕ) (users : ℕ) (nodes : List ℕ) (x : ℕ) → Contains nodes x
    → size (slice_index sets x) < users → Contains (larger_first sets users nodes) x
to_larger sets zero nodes x h less = absurd (omega arith)
to_larger sets (suc users) nodes x h less = elim (cases_eq (size (slice_index sets x)) users) [
  | inl same ↦ Contains-append_left _ _ x (filter-Contains (has_size sets users) nodes x h (eq-eqb _ _ same))
  | inr other ↦ Contains-append_right (filter (has_size sets users) nodes) _ x (to_larger sets users nodes x h (omega arith))
]
