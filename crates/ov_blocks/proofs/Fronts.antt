-- Extents before a place and behind it, and a search that begins there.
use Rattle.std.proofs.Common.{◌≡◌, inl, inr, ℕ, zero, suc, ◌+◌, ◌-◌, ◌≤◌, ◌<◌, List, [], ◌∷◌, length, drop, take, get_or, refl, subst, arith, take_all, length-drop}
use Rattle.std.proofs.lemmas.Bool.{cases_lt}
use Rattle.ov_blocks.specs.declared.extents.Extent.{Extent}
use Rattle.ov_blocks.specs.Extents.{AreApart, IsFree, end_from}
use Rattle.ov_blocks.specs.Gaps.{HasNoneBefore}
use Rattle.ov_blocks.specs.Places.{IsBetween, IsCountBefore}
use Rattle.ov_blocks.proofs.Lowest.{lowest_in, free, lowest}
use Rattle.ov_blocks.proofs.Places.{beside_at}

-- ---- where those before a place end

-- where the last of them does
pub end_at : (from : ℕ) (held : List Extent) (k : ℕ) (d : Extent) → k < length held → end_from from (take (suc k) held) ≡ (get_or held k d).first + (get_or held k d).length
end_at from [] k d lt = absurd (omega (arith, lt))
end_at from (e ∷ held) zero d lt = refl
end_at from (e ∷ held) (suc k) d lt = end_at (e.first + e.length) held k d (omega (arith, lt))

-- none of them ends before all begin
pub end_behind : (from : ℕ) (held : List Extent) (i : ℕ) → AreApart from held → from ≤ end_from from (take i held)
end_behind from held zero apart = omega arith
end_behind from [] (suc i) apart = omega arith
end_behind from (e ∷ held) (suc i) apart = omega (arith, apart.0, end_behind (e.first + e.length) held i apart.2)

-- the others begin there or behind it
pub rest_apart : (from : ℕ) (held : List Extent) (i : ℕ) → AreApart from held → i ≤ length held → AreApart (end_from from (take i held)) (drop i held)
rest_apart from held zero apart le = apart
rest_apart from [] (suc i) apart le = absurd (omega (arith, le))
rest_apart from (e ∷ held) (suc i) apart le = rest_apart (e.first + e.length) held i apart.2 (omega (arith, le))

-- a run that begins behind that begins behind each of them
pub end_is : (held : List Extent) (i first : ℕ) → i ≤ length held → end_from 0 (take i held) ≤ first → (k : ℕ) (d : Extent) → k + 1 ≡ i → (get_or held k d).first + (get_or held k d).length ≤ first
end_is held zero first inside le k d is = absurd (omega (arith, is))
end_is held (suc j) first inside le k d is =
    let same : j ≡ k = omega (arith, is) in
    subst (λ (n : ℕ). (get_or held n d).first + (get_or held n d).length ≤ first) same (omega (arith, le, end_at 0 held j d (omega (arith, inside))))

-- and the other way round
pub ends_before : (held : List Extent) (place first count : ℕ) → IsBetween place first count held → end_from 0 (take place held) ≤ first
ends_before held zero first count between = omega arith
ends_before held (suc p) first count between =
    let d : Extent = record { first = 0; length = 0 } in
    omega (arith, between.before p d (omega arith), end_at 0 held p d (omega (arith, between.inside)))

-- a slice of the others is all of them
pub rest_whole : (held : List Extent) (i : ℕ) → take (length held - i) (drop i held) ≡ drop i held
rest_whole held i = take_all (length held - i) (drop i held) (omega (arith, length-drop i held))

-- ---- runs behind that

-- a run that is free of the others
free_of_all : (from : ℕ) (held : List Extent) (i first count : ℕ) → AreApart from held → end_from from (take i held) ≤ first → IsFree first count (drop i held) → IsFree first count held
free_of_all from held zero first count apart ge is = is
free_of_all from [] (suc i) first count apart ge is = tt
free_of_all from (e ∷ held) (suc i) first count apart ge is =
    (inr (omega (arith, ge, end_behind (e.first + e.length) held i apart.2)), free_of_all (e.first + e.length) held i first count apart.2 ge is)

free_of_rest : (held : List Extent) (i first count : ℕ) → IsFree first count held → IsFree first count (drop i held)
free_of_rest held zero first count is = is
free_of_rest [] (suc i) first count is = tt
free_of_rest (e ∷ held) (suc i) first count is = free_of_rest held i first count is.1

-- ---- a search

-- two lowest free runs are the same
pub same_lowest : (held : List Extent) (count a : ℕ) → AreApart 0 held → IsFree a count held → ((first : ℕ) → first < a → IsFree first count held → ⊥) → a ≡ lowest_in 0 count held
same_lowest held count a apart is none = elim (cases_lt a (lowest_in 0 count held)) [
  | inl lt ↦ absurd (lowest 0 count held a (omega arith) lt is)
  | inr ge ↦ elim (cases_lt (lowest_in 0 count held) a) [
    | inl lt ↦ absurd (none (lowest_in 0 count held) lt (free 0 count held apart))
    | inr le ↦ omega (arith, ge, le)
  ]
]

-- A run that begins behind what is counted, and before that ends, isn't free.
pub in_last : (held : List Extent) (from i first count : ℕ) → AreApart 0 held → IsCountBefore from i held → from ≤ first → first < end_from 0 (take i held) → IsFree first count held → ⊥
in_last held from zero first count apart places ge lt is = absurd (omega (arith, lt))
in_last held from (suc k) first count apart places ge lt is =
    let d : Extent = record { first = 0; length = 0 } in
    let inside : k < length held = omega (arith, places.inside) in
    elim (beside_at first count held k d is inside) [
      | inl before ↦ absurd (omega (arith, before, ge, places.before k d (omega arith)))
      | inr behind ↦ absurd (omega (arith, behind, lt, end_at 0 held k d inside))
    ]

-- where none begins before `from`, none begins before those end that do
pub none_before : (held : List Extent) (from i count : ℕ) → AreApart 0 held → IsCountBefore from i held → ((lower : ℕ) → lower < from → IsFree lower count held → ⊥)
    → HasNoneBefore i count held
none_before held from i count apart places none first lt is = elim (cases_lt first from) [
  | inl low ↦ none first low is
  | inr high ↦ in_last held from i first count apart places high lt is
]

-- so the lowest run that is free of the others is the lowest of all
pub found_behind : (held : List Extent) (i count a : ℕ) → AreApart 0 held → HasNoneBefore i count held
    → end_from 0 (take i held) ≤ a → IsFree a count (drop i held)
    → ((first : ℕ) → end_from 0 (take i held) ≤ first → first < a → IsFree first count (drop i held) → ⊥) → a ≡ lowest_in 0 count held
found_behind held i count a apart none ge is low =
    same_lowest held count a apart (free_of_all 0 held i a count apart ge is)
    (λ first lt free_there. elim (cases_lt first (end_from 0 (take i held))) [
      | inl before ↦ none first before free_there
      | inr behind ↦ low first behind lt (free_of_rest held i first count free_there)
    ])
