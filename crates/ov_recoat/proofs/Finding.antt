-- The first rewrite of a file, in a list whose files ascend.
use Rattle.std.proofs.Common.{◌≡◌, inl, inr, ℕ, zero, suc, ◌+◌, ◌<◌, ◌≤◌, List, [], ◌∷◌, length, get_or, refl, sym, ◌∙◌, ap, arith}
use Rattle.std.specs.List.Sorted.{IsNonDecreasingBy}
use Rattle.std.specs.Prelude.{Bool, true, false, ◌==◌, cond, Some, None}
use Rattle.std.proofs.lemmas.Bool.{cases_eq, eq-eqb}
use Rattle.std.proofs.lemmas.List.{get_or_default}
use Rattle.std.proofs.lemmas.Bool.Decides.{eqb_tells}
use Rattle.ov_history.specs.Rewrites.{Rewrite as PlainRewrite}
use Rattle.ov_state.specs.Entries.{plain_rewrite, plain_rewrites}
use Rattle.ov_state.specs.declared.change.Rewrite.{Rewrite}
use Rattle.ov_recoat.specs.Finding.{IsCountBefore, first_of}
use Rattle.ov_recoat.specs.Laws.{Ascend}

-- the first of these rewrites is of the file, or it isn't
pub first_here : (r : PlainRewrite) (rewrites : List PlainRewrite) (file : ℕ) → (r.file == file) ≡ true
    → first_of (r ∷ rewrites) file ≡ Some r
first_here r rewrites file same = ap (λ (b : Bool). cond b (Some r) (first_of rewrites file)) same

pub first_later : (r : PlainRewrite) (rewrites : List PlainRewrite) (file : ℕ) → (r.file == file) ≡ false
    → first_of (r ∷ rewrites) file ≡ first_of rewrites file
first_later r rewrites file other = ap (λ (b : Bool). cond b (Some r) (first_of rewrites file)) other

-- ---- files that ascend

-- each is at that number, or above it
at_least : (number : ℕ) (rewrites : List Rewrite) (k : ℕ) (d : Rewrite) → Ascend number (plain_rewrites rewrites)
    → k < length rewrites → number ≤ (get_or rewrites k d).file
at_least number [] k d all lt = absurd (omega (arith, lt))
at_least number (r ∷ rewrites) zero d all lt = all.0
at_least number (r ∷ rewrites) (suc k) d all lt =
    omega (arith, all.0, at_least (r.file + 1) rewrites k d all.1 (omega (arith, lt)))

rises_from : (number : ℕ) (rewrites : List Rewrite) (i j : ℕ) (d : Rewrite) → Ascend number (plain_rewrites rewrites)
    → i ≤ j → j < length rewrites → (get_or rewrites i d).file ≤ (get_or rewrites j d).file
rises_from number [] i j d all le lt = absurd (omega (arith, lt))
rises_from number (r ∷ rewrites) zero zero d all le lt = omega arith
rises_from number (r ∷ rewrites) (suc i) zero d all le lt = absurd (omega (arith, le))
rises_from number (r ∷ rewrites) zero (suc j) d all le lt =
    omega (arith, at_least (r.file + 1) rewrites j d all.1 (omega (arith, lt)))
rises_from number (r ∷ rewrites) (suc i) (suc j) d all le lt =
    rises_from (r.file + 1) rewrites i j d all.1 (omega (arith, le)) (omega (arith, lt))

pub rises : (rewrites : List Rewrite) → Ascend 0 (plain_rewrites rewrites)
    → IsNonDecreasingBy (λ (r : Rewrite). r.file) rewrites
rises rewrites all i j d le lt = rises_from 0 rewrites i j d all le lt

-- a file below all of them has none
none_below : (number file : ℕ) (rewrites : List Rewrite) → Ascend number (plain_rewrites rewrites) → file < number
    → first_of (plain_rewrites rewrites) file ≡ None
none_below number file [] all lt = refl
none_below number file (r ∷ rewrites) all lt = elim (eqb_tells r.file file) [
  | inl same ↦ absurd (omega (arith, same.1, all.0, lt))
  | inr other ↦
      first_later (plain_rewrite r) (plain_rewrites rewrites) file other.0
      ∙ none_below (r.file + 1) file rewrites all.1 (omega (arith, all.0, lt))
]

-- ---- the place that a search finds

-- the first of them isn't the file's
pass_first : (r : Rewrite) (rewrites : List Rewrite) (file : ℕ) → r.file < file
    → first_of (plain_rewrites (r ∷ rewrites)) file ≡ first_of (plain_rewrites rewrites) file
pass_first r rewrites file low = elim (eqb_tells r.file file) [
  | inl same ↦ absurd (omega (arith, same.1, low))
  | inr other ↦ first_later (plain_rewrite r) (plain_rewrites rewrites) file other.0
]

-- the place in the list without its first
count_rest : (file place : ℕ) (r : Rewrite) (rewrites : List Rewrite) → IsCountBefore file (suc place) (r ∷ rewrites)
    → IsCountBefore file place rewrites
count_rest file place r rewrites is = record {
  inside = omega (arith, is.inside);
  before = λ k d lt. is.before (suc k) d (omega (arith, lt));
  behind = λ k d le lt. is.behind (suc k) d (omega (arith, le)) (omega (arith, lt));
}

found : (file place : ℕ) (rewrites : List Rewrite) (d : Rewrite) → IsCountBefore file place rewrites
    → place < length rewrites → (get_or rewrites place d).file ≡ file
    → first_of (plain_rewrites rewrites) file ≡ Some (plain_rewrite (get_or rewrites place d))
found file place [] d count lt is = absurd (omega (arith, lt))
found file zero (r ∷ rewrites) d count lt is =
    first_here (plain_rewrite r) (plain_rewrites rewrites) file (eq-eqb r.file file is)
found file (suc place) (r ∷ rewrites) d count lt is =
    pass_first r rewrites file (count.before 0 r (omega arith))
    ∙ found file place rewrites d (count_rest file place r rewrites count) (omega (arith, lt)) is

-- the rewrite at the place is the file's
pub found_at : (file place : ℕ) (rewrites : List Rewrite) (r : Rewrite) → IsCountBefore file place rewrites
    → place < length rewrites → r ≡ get_or rewrites place r → r.file ≡ file
    → first_of (plain_rewrites rewrites) file ≡ Some (plain_rewrite r)
found_at file place rewrites r count lt at is =
    found file place rewrites r count lt (ap (λ (x : Rewrite). x.file) (sym at) ∙ is)
    ∙ ap (λ (x : Rewrite). Some (plain_rewrite x)) (sym at)

-- it is of a file above, or there is none
not_found : (number file place : ℕ) (rewrites : List Rewrite) → Ascend number (plain_rewrites rewrites)
    → IsCountBefore file place rewrites
    → ((d : Rewrite) → place < length rewrites → file < (get_or rewrites place d).file)
    → first_of (plain_rewrites rewrites) file ≡ None
not_found number file place [] all count past = refl
not_found number file zero (r ∷ rewrites) all count past =
    none_below r.file file (r ∷ rewrites) (omega arith, all.1) (past r (omega arith))
not_found number file (suc place) (r ∷ rewrites) all count past =
    pass_first r rewrites file (count.before 0 r (omega arith))
    ∙ not_found (r.file + 1) file place rewrites all.1 (count_rest file place r rewrites count)
    (λ d lt. past d (omega (arith, lt)))

-- it is of another file
pub other_at : (file place : ℕ) (rewrites : List Rewrite) (r : Rewrite) → Ascend 0 (plain_rewrites rewrites)
    → IsCountBefore file place rewrites → place < length rewrites → r ≡ get_or rewrites place r
    → (r.file ≡ file → ⊥) → first_of (plain_rewrites rewrites) file ≡ None
other_at file place rewrites r all count lt at other = not_found 0 file place rewrites all count (λ d below.
    let same : get_or rewrites place d ≡ r = get_or_default rewrites place d r below ∙ sym at in
    let high : file ≤ (get_or rewrites place d).file = count.behind place d (omega arith) below in
    elim (cases_eq r.file file) [
      | inl is ↦ absurd (other is)
      | inr not ↦ omega (arith, high, ap (λ (x : Rewrite). x.file) same, not)
    ])

-- there is none
pub none_at : (file place : ℕ) (rewrites : List Rewrite) → Ascend 0 (plain_rewrites rewrites)
    → IsCountBefore file place rewrites → length rewrites ≤ place → first_of (plain_rewrites rewrites) file ≡ None
none_at file place rewrites all count past =
    not_found 0 file place rewrites all count (λ d lt. absurd (omega (arith, lt, past)))
