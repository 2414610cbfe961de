-- Where an extent stands among others.
use Rattle.std.proofs.Common.{◌≡◌, inl, inr, ℕ, zero, suc, ◌+◌, ◌≤◌, ◌<◌, List, [], ◌∷◌, ◌++◌, length, drop, take, get_or, refl, sym, ◌∙◌, ap, arith}
use Rattle.std.specs.Prelude.{Contains}
use Rattle.std.specs.List.{insert, remove}
use Rattle.std.specs.List.Sorted.{IsNonDecreasingBy}
use Rattle.std.proofs.lemmas.List.{take-append-drop}
use Rattle.std.proofs.Math.Seq.{drop-cons}
use Rattle.std.proofs.lemmas.Bool.{cases_eq, cases_lt}
use Rattle.ov_blocks.specs.declared.extents.Extent.{Extent}
use Rattle.ov_blocks.specs.declared.extents.TheConstants.{MAX_BLOCKS}
use Rattle.ov_blocks.specs.Extents.{AreApart, IsBeside, IsFree, IsWith}
use Rattle.ov_blocks.specs.Places.{IsCountBefore, IsBetween}
use Rattle.ov_blocks.proofs.Lowest.{free_before, within}

-- one of them begins behind where all begin, has a block or more, and ends where blocks end or before
pub record IsOne (from : ℕ) (e : Extent) : Type 0 where
  pub begins : from ≤ e.first
  pub some : 1 ≤ e.length
  pub ends : e.first + e.length ≤ MAX_BLOCKS

pub one : (from : ℕ) (held : List Extent) (k : ℕ) (d : Extent) → AreApart from held → k < length held → IsOne from (get_or held k d)
one from [] k d apart lt = absurd (omega (arith, lt))
one from (e ∷ held) zero d apart lt = record { begins = apart.0; some = apart.1; ends = within (e.first + e.length) held apart.2 }
one from (e ∷ held) (suc k) d apart lt =
    let more = one (e.first + e.length) held k d apart.2 (omega (arith, lt)) in
    record { begins = omega (arith, apart.0, more.begins); some = more.some; ends = more.ends }

-- each ends before the next begins
pub in_order : (from : ℕ) (held : List Extent) (i j : ℕ) (d : Extent) → AreApart from held → i < j → j < length held
    → (get_or held i d).first + (get_or held i d).length ≤ (get_or held j d).first
in_order from [] i j d apart le lt = absurd (omega (arith, lt))
in_order from (e ∷ held) i zero d apart le lt = absurd (omega (arith, le))
in_order from (e ∷ held) zero (suc j) d apart le lt = (one (e.first + e.length) held j d apart.2 (omega (arith, lt))).begins
in_order from (e ∷ held) (suc i) (suc j) d apart le lt = in_order (e.first + e.length) held i j d apart.2 (omega (arith, le)) (omega (arith, lt))

pub rises : (held : List Extent) → AreApart 0 held → IsNonDecreasingBy (λ (e : Extent). e.first) held
rises held apart i j d le lt = elim (cases_eq i j) [
  | inl same ↦ omega (arith, ap (λ (k : ℕ). (get_or held k d).first) same)
  | inr other ↦ omega (arith, in_order 0 held i j d apart (omega arith) lt)
]

-- all of a smaller beginning
pub from_less : (from less : ℕ) (held : List Extent) → AreApart from held → less ≤ from → AreApart less held
from_less from less [] apart le = omega (arith, apart, le)
from_less from less (e ∷ held) apart le = (omega (arith, apart.0, le), apart.1, apart.2)

-- free of all is free of one
pub beside_at : (first count : ℕ) (held : List Extent) (k : ℕ) (d : Extent) → IsFree first count held → k < length held → IsBeside first count (get_or held k d)
beside_at first count [] k d is lt = absurd (omega (arith, lt))
beside_at first count (e ∷ held) zero d is lt = is.0
beside_at first count (e ∷ held) (suc k) d is lt = beside_at first count held k d is.1 (omega (arith, lt))

-- the same of a list without its first
between_rest : (x : Extent) (xs : List Extent) (p first count : ℕ) → IsBetween (suc p) first count (x ∷ xs) → IsBetween p first count xs
between_rest x xs p first count is = record {
  inside = omega (arith, is.inside);
  before = λ k d here. is.before (suc k) d (omega (arith, here));
  behind = λ d lt. is.behind d (omega (arith, lt));
}

-- the run begins behind what stands before it
behind_first : (from : ℕ) (held : List Extent) (p first count : ℕ) → AreApart from held → IsBetween (suc p) first count held → from ≤ first
behind_first from held p first count apart is =
    let e : Extent = record { first = 0; length = 0 } in
    let here = one from held p e apart (omega (arith, is.inside)) in
    omega (arith, here.begins, is.before p e (omega arith))

begins_behind : (from : ℕ) (held : List Extent) (p first count : ℕ) (x : Extent) → AreApart (x.first + x.length) held → IsBetween (suc p) first count (x ∷ held) → x.first + x.length ≤ first
begins_behind from held zero first count x apart is = is.before 0 x refl
begins_behind from held (suc p) first count x apart is = behind_first (x.first + x.length) held p first count apart (between_rest x held (suc p) first count is)

pub is_free : (from : ℕ) (held : List Extent) (place first count : ℕ) → AreApart from held → IsBetween place first count held → IsFree first count held
is_free from [] place first count apart is = tt
is_free from (x ∷ held) zero first count apart is =
    let le : first + count ≤ x.first = is.behind x (omega arith) in
    (inl le, free_before (x.first + x.length) first count held apart.2 (omega (arith, le)))
is_free from (x ∷ held) (suc p) first count apart is =
    (inr (begins_behind from held p first count x apart.2 is), is_free (x.first + x.length) held p first count apart.2 (between_rest x held p first count is))

pub inserted : (from : ℕ) (held : List Extent) (place : ℕ) (e : Extent) → AreApart from held → from ≤ e.first → 1 ≤ e.length → e.first + e.length ≤ MAX_BLOCKS
    → IsBetween place e.first e.length held → AreApart from (insert held place e)
inserted from [] zero e apart begins some ends is = (begins, some, ends)
inserted from [] (suc p) e apart begins some ends is = absurd (omega (arith, is.inside))
inserted from (x ∷ held) zero e apart begins some ends is = (begins, some, (is.behind x (omega arith), apart.1, apart.2))
inserted from (x ∷ held) (suc p) e apart begins some ends is =
    (apart.0, apart.1, inserted (x.first + x.length) held p e apart.2 (begins_behind from held p e.first e.length x apart.2 is) some ends (between_rest x held p e.first e.length is))

pub removed : (from : ℕ) (held : List Extent) (place : ℕ) → AreApart from held → AreApart from (remove held place)
removed from [] zero apart = apart
removed from [] (suc p) apart = apart
removed from (x ∷ held) zero apart = from_less (x.first + x.length) from held apart.2 (omega (arith, apart.0))
removed from (x ∷ held) (suc p) apart = (apart.0, apart.1, removed (x.first + x.length) held p apart.2)

-- what is removed at a place, however the place is written
pub removed_at : {at : ℕ} (old new : List Extent) (place : ℕ) → new ≡ remove old at → at ≡ place → new ≡ remove old place
removed_at old new place is same = is ∙ ap (remove old) same

-- ---- one more and one less

pub is_with : (e : Extent) (old new : List Extent) (place : ℕ) → new ≡ insert old place e → IsWith e old new
is_with e old new place is = record { front = take place old; back = drop place old; before = sym (take-append-drop place old); after = is }

-- the place of an extent that is held is its own
pub own_place : (held : List Extent) (place first : ℕ) (e : Extent) → AreApart 0 held → IsCountBefore first place held → Contains held e → e.first ≡ first
    → (place < length held) × (get_or held place e ≡ e)
own_place held place first e apart is held_is begins = elim (cases_lt held_is.0 place) [
  | inl lt ↦ absurd (
      let lower = is.before held_is.0 e lt in
      omega (arith, lower, ap (λ (x : Extent). x.first) held_is.2, begins))
  | inr ge ↦ elim (cases_eq held_is.0 place) [
    | inl same ↦ (omega (arith, same, held_is.1), ap (λ (k : ℕ). get_or held k e) (sym same) ∙ held_is.2)
    | inr other ↦ absurd (
        let later = in_order 0 held place held_is.0 e apart (omega (arith, ge, other)) held_is.1 in
        let here = one 0 held place e apart (omega (arith, ge, other, held_is.1)) in
        let behind = is.behind place e (omega arith) (omega (arith, ge, other, held_is.1)) in
        omega (arith, later, here.some, behind, ap (λ (x : Extent). x.first) held_is.2, begins))
  ]
]

pub is_without : (e : Extent) (old new : List Extent) (place : ℕ) → new ≡ remove old place → place < length old → get_or old place e ≡ e → IsWith e new old
is_without e old new place is lt here =
    let next : drop place old ≡ e ∷ drop (suc place) old = drop-cons old place e lt ∙ ap (λ (x : Extent). x ∷ drop (suc place) old) here in
    record { front = take place old; back = drop (suc place) old; before = is; after = sym (take-append-drop place old) ∙ ap (λ (l : List Extent). take place old ++ l) next }
