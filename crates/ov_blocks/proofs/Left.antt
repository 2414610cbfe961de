-- A list of extents without one of them: which runs are free then, and another one in its slot.
use Rattle.std.proofs.Common.{◌≡◌, ◌⊎◌, inl, inr, ℕ, zero, suc, ◌+◌, ◌≤◌, ◌<◌, List, [], ◌∷◌, length, take, get_or, set, refl, ap, arith}
use Rattle.std.specs.Prelude.{Option, None, Some}
use Rattle.std.specs.List.{insert, remove}
use Rattle.std.proofs.lemmas.Bool.{cases_lt}
use Rattle.ov_blocks.specs.declared.extents.Extent.{Extent}
use Rattle.ov_blocks.specs.declared.extents.TheConstants.{MAX_BLOCKS}
use Rattle.ov_blocks.specs.Extents.{AreApart, IsFree, end_from}
use Rattle.ov_blocks.specs.Places.{IsBetween, IsLowest}
use Rattle.ov_blocks.specs.Slots.{without}
use Rattle.ov_blocks.proofs.Fronts.{ends_before}
use Rattle.ov_blocks.proofs.Lowest.{free_before}
use Rattle.ov_blocks.proofs.Places.{beside_at, inserted, is_free, one, removed}

-- ---- what stands before its place

pub take_left : (held : List Extent) (place : ℕ) → take place (remove held place) ≡ take place held
take_left held zero = refl
take_left [] (suc p) = refl
take_left (e ∷ held) (suc p) = ap (λ (l : List Extent). e ∷ l) (take_left held p)

pub end_left : (held : List Extent) (place : ℕ) → end_from 0 (take place (remove held place)) ≡ end_from 0 (take place held)
end_left held place = ap (end_from 0) (take_left held place)

-- ---- runs that are free without it

-- what is free of all is free of the others
pub free_left : (held : List Extent) (place first count : ℕ) → IsFree first count held → IsFree first count (remove held place)
free_left [] zero first count is = tt
free_left [] (suc p) first count is = tt
free_left (e ∷ held) zero first count is = is.1
free_left (e ∷ held) (suc p) first count is = (is.0, free_left held p first count is.1)

between_more : (e : Extent) (held : List Extent) (p first count : ℕ) → e.first + e.length ≤ first → IsBetween p first count held → IsBetween (suc p) first count (e ∷ held)
between_more e held p first count le is = record {
  inside = omega (arith, is.inside);
  before = before;
  behind = λ d lt. is.behind d (omega (arith, lt));
} where
  before : (k : ℕ) (d : Extent) → k + 1 ≡ suc p → (get_or (e ∷ held) k d).first + (get_or (e ∷ held) k d).length ≤ first
  before zero d here = le
  before (suc k) d here = is.before k d (omega (arith, here))

-- a run that begins before an extent ends, and is free of those behind it, ends before they begin
between_first : (from : ℕ) (held : List Extent) (first count : ℕ) → AreApart from held → first < from → IsFree first count held → IsBetween 0 first count held
between_first from held first count apart lower is = record {
  inside = omega arith;
  before = λ k d here. absurd (omega (arith, here));
  behind = λ d lt. elim (beside_at first count held 0 d is lt) [
    | inl before ↦ before
    | inr behind ↦ absurd (let here = one from held 0 d apart lt in omega (arith, behind, lower, here.begins, here.some))
  ];
}

-- what is free of the others is free of all, or lies in the gap that is there without it
pub free_or_between : (from : ℕ) (held : List Extent) (place first count : ℕ) → AreApart from held → place < length held → IsFree first count (remove held place)
    → IsFree first count held ⊎ IsBetween place first count (remove held place)
free_or_between from [] place first count apart lt is = absurd (omega (arith, lt))
free_or_between from (e ∷ held) zero first count apart lt is = elim (cases_lt e.first (first + count)) [
  | inr before ↦ inl (inl before, is)
  | inl higher ↦ elim (cases_lt first (e.first + e.length)) [
    | inr behind ↦ inl (inr behind, is)
    | inl lower ↦ inr (between_first (e.first + e.length) held first count apart.2 lower is)
  ]
]
free_or_between from (e ∷ held) (suc p) first count apart lt is = elim is.0 [
  | inl before ↦ inl (inl before, free_before (e.first + e.length) first count held apart.2 (omega (arith, before)))
  | inr behind ↦ elim (free_or_between (e.first + e.length) held p first count apart.2 (omega (arith, lt)) is.1) [
    | inl free ↦ inl (inr behind, free)
    | inr gap ↦ inr (between_more e (remove held p) p first count behind gap)
  ]
]

-- ---- the lowest run that is free without it

module _ (held : List Extent) (place count lowest : ℕ) (apart : AreApart 0 held) (lt : place < length held) (was : IsLowest lowest count held) where
  -- the gap begins before that run, and is long enough
  pub lowest_in_gap : (start : ℕ) → start ≡ end_from 0 (take place held) → start < lowest → IsBetween place start count (remove held place) → IsLowest start count (remove held place)
  lowest_in_gap start is_end lower fits = record {
    free = is_free 0 (remove held place) place start count (removed 0 held place apart) fits;
    lower = λ other less is. elim (free_or_between 0 held place other count apart lt is) [
      | inl free ↦ was.lower other (omega (arith, less, lower)) free
      | inr gap ↦ absurd (omega (arith, less, is_end, end_left held place, ends_before (remove held place) place other count gap))
    ];
  }

  -- the gap begins behind that, or is too short
  pub lowest_stays : ((other : ℕ) → other < lowest → IsBetween place other count (remove held place) → ⊥) → IsLowest lowest count (remove held place)
  lowest_stays none = record {
    free = free_left held place lowest count was.free;
    lower = λ other less is. elim (free_or_between 0 held place other count apart lt is) [
      | inl free ↦ was.lower other less free
      | inr gap ↦ none other less gap
    ];
  }

-- ---- the slots without the one that was given up, if one was

pub free_without : (gone : Option ℕ) (slots : List Extent) (first count : ℕ) → IsFree first count slots → IsFree first count (without gone slots)
free_without None slots first count is = is
free_without (Some place) slots first count is = free_left slots place first count is

pub apart_without : (gone : Option ℕ) (slots : List Extent) → AreApart 0 slots → AreApart 0 (without gone slots)
apart_without None slots apart = apart
apart_without (Some place) slots apart = removed 0 slots place apart

-- ---- another in its slot

pub set_is : (held : List Extent) (place : ℕ) (e : Extent) → place < length held → set held place e ≡ insert (remove held place) place e
set_is [] place e lt = absurd (omega (arith, lt))
set_is (x ∷ held) zero e lt = refl
set_is (x ∷ held) (suc p) e lt = ap (λ (l : List Extent). x ∷ l) (set_is held p e (omega (arith, lt)))

-- the same in its slot
pub same_is : (held : List Extent) (place : ℕ) (e : Extent) → place < length held → get_or held place e ≡ e → held ≡ insert (remove held place) place e
same_is [] place e lt is = absurd (omega (arith, lt))
same_is (x ∷ held) zero e lt is = ap (λ (y : Extent). y ∷ held) is
same_is (x ∷ held) (suc p) e lt is = ap (λ (l : List Extent). x ∷ l) (same_is held p e (omega (arith, lt)) is)

pub replaced : (held : List Extent) (place : ℕ) (e : Extent) → AreApart 0 held → 1 ≤ e.length → e.first + e.length ≤ MAX_BLOCKS
    → IsBetween place e.first e.length (remove held place) → AreApart 0 (insert (remove held place) place e)
replaced held place e apart some ends between = inserted 0 (remove held place) place e (removed 0 held place apart) (omega arith) some ends between
