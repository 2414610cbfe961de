-- Gaps between extents, what is known of them, and a search that passes many at once.
use Rattle.std.proofs.Common.{◌≡◌, ◌⊎◌, inl, inr, ℕ, zero, suc, ◌+◌, ◌-◌, ◌≤◌, ◌<◌, List, [], ◌∷◌, length, take, get_or, refl, ◌∙◌, ap, arith}
use Rattle.std.specs.Prelude.{◌≢◌}
use Rattle.std.specs.List.{insert, remove}
use Rattle.std.proofs.lemmas.Bool.{cases_eq, cases_lt}
use Rattle.std.proofs.lemmas.List.Edits.{length-insert, length-remove}
use Rattle.ov_blocks.specs.declared.extents.Extent.{Extent}
use Rattle.ov_blocks.specs.Extents.{AreApart, IsFree, end_from}
use Rattle.ov_blocks.specs.Gaps.{AreShort, HasNoneBefore, IsPacked, gap_at}
use Rattle.ov_blocks.specs.Places.{IsBetween}
use Rattle.ov_blocks.proofs.Fronts.{end_behind, ends_before}

-- ---- one gap

pub gap_is : (from : ℕ) (held : List Extent) (k : ℕ) (d : Extent) → k < length held → gap_at from held k ≡ (get_or held k d).first - end_from from (take k held)
gap_is from [] k d lt = absurd (omega (arith, lt))
gap_is from (e ∷ held) zero d lt = refl
gap_is from (e ∷ held) (suc k) d lt = gap_is (e.first + e.length) held k d (omega (arith, lt))

-- the extents before one end where it begins, or before that
pub ends_at : (from : ℕ) (held : List Extent) (k : ℕ) (d : Extent) → AreApart from held → k < length held → end_from from (take k held) ≤ (get_or held k d).first
ends_at from [] k d apart lt = absurd (omega (arith, lt))
ends_at from (e ∷ held) zero d apart lt = apart.0
ends_at from (e ∷ held) (suc k) d apart lt = ends_at (e.first + e.length) held k d apart.2 (omega (arith, lt))

-- where the extents begin tells the first gap alone
gap_behind : (from less : ℕ) (held : List Extent) (k : ℕ) → gap_at from held (suc k) ≡ gap_at less held (suc k)
gap_behind from less [] k = refl
gap_behind from less (e ∷ held) k = refl

-- ---- gaps of one extent less

less_before : (from : ℕ) (held : List Extent) (place k : ℕ) → k < place → gap_at from (remove held place) k ≡ gap_at from held k
less_before from [] zero k lt = absurd (omega (arith, lt))
less_before from [] (suc p) k lt = refl
less_before from (e ∷ held) zero k lt = absurd (omega (arith, lt))
less_before from (e ∷ held) (suc p) zero lt = refl
less_before from (e ∷ held) (suc p) (suc k) lt = less_before (e.first + e.length) held p k (omega (arith, lt))

less_behind : (from : ℕ) (held : List Extent) (place k : ℕ) → place < k → gap_at from (remove held place) k ≡ gap_at from held (suc k)
less_behind from held place zero lt = absurd (omega (arith, lt))
less_behind from [] zero (suc k) lt = refl
less_behind from [] (suc p) (suc k) lt = refl
less_behind from (e ∷ held) zero (suc k) lt = gap_behind from (e.first + e.length) held k
less_behind from (e ∷ held) (suc p) (suc k) lt = less_behind (e.first + e.length) held p k (omega (arith, lt))

-- ---- gaps of one extent more

more_before : (from : ℕ) (held : List Extent) (place k : ℕ) (e : Extent) → k < place → place ≤ length held → gap_at from (insert held place e) k ≡ gap_at from held k
more_before from held zero k e lt le = absurd (omega (arith, lt))
more_before from [] (suc p) k e lt le = absurd (omega (arith, le))
more_before from (x ∷ held) (suc p) zero e lt le = refl
more_before from (x ∷ held) (suc p) (suc k) e lt le = more_before (x.first + x.length) held p k e (omega (arith, lt)) (omega (arith, le))

more_at : (from : ℕ) (held : List Extent) (place : ℕ) (e : Extent) → place ≤ length held → gap_at from (insert held place e) place ≡ e.first - end_from from (take place held)
more_at from [] zero e le = refl
more_at from [] (suc p) e le = absurd (omega (arith, le))
more_at from (x ∷ held) zero e le = refl
more_at from (x ∷ held) (suc p) e le = more_at (x.first + x.length) held p e (omega (arith, le))

more_behind : (from : ℕ) (held : List Extent) (place k : ℕ) (e : Extent) → place < k → place ≤ length held → gap_at from (insert held place e) (suc k) ≡ gap_at from held k
more_behind from held place zero e lt le = absurd (omega (arith, lt))
more_behind from [] zero (suc k) e lt le = refl
more_behind from [] (suc p) (suc k) e lt le = absurd (omega (arith, le))
more_behind from (x ∷ held) zero (suc k) e lt le = refl
more_behind from (x ∷ held) (suc p) (suc k) e lt le = more_behind (x.first + x.length) held p k e (omega (arith, lt)) (omega (arith, le))

-- ---- what is known of them

module _ (held : List Extent) (gap until : ℕ) (was : IsPacked (record { gap = gap; until = until }) held) where
  -- a gap where nothing is known tells nothing
  pub short : (start count : ℕ) → 1 ≤ count → (gap < start) ⊎ (until ≤ gap) → AreShort start until count held
  short start count some out k ge lt =
      let differ : k ≢ gap = λ same. elim out [ inl low ↦ omega (arith, low, ge, same) | inr high ↦ omega (arith, high, lt, same) ] in
      omega (arith, was.tight k lt differ, some)

  -- ---- with one extent less

  pub less_unchanged : (place : ℕ) → place < length held → until ≤ place → IsPacked (record { gap = gap; until = until }) (remove held place)
  less_unchanged place lt le = record {
    inside = omega (arith, length-remove held place lt, le, lt);
    tight = λ k below other. less_before 0 held place k (omega (arith, below, le)) ∙ was.tight k below other;
  }

  -- the other gap is before it
  pub less_low : (place : ℕ) → place < until → IsPacked (record { gap = gap; until = place }) (remove held place)
  less_low place lt = record {
    inside = omega (arith, length-remove held place (omega (arith, lt, was.inside)), lt, was.inside);
    tight = λ k below other. less_before 0 held place k below ∙ was.tight k (omega (arith, below, lt)) other;
  }

  -- the first gap is before it, and the next one before that at `high`
  pub less_high : (place high : ℕ) → place < high → high ≤ until → ((k : ℕ) → k < high → k ≢ place → k ≢ place + 1 → gap_at 0 held k ≡ 0)
      → IsPacked (record { gap = place; until = high - 1 }) (remove held place)
  less_high place high lt le none = record {
    inside = omega (arith, length-remove held place (omega (arith, lt, le, was.inside)), lt, le, was.inside);
    tight = λ k below other. elim (cases_lt k place) [
      | inl low ↦ less_before 0 held place k low ∙ none k (omega (arith, low, lt)) other (λ same. omega (arith, same, low))
      | inr high ↦ less_behind 0 held place k (omega (arith, high, other))
          ∙ none (suc k) (omega (arith, below)) (λ same. omega (arith, same, high)) (λ same. other (omega (arith, same)))
    ];
  }

  -- ---- with one extent more

  -- it stands in the one gap
  in_gap : (place : ℕ) (e : Extent) → place < until → 1 ≤ e.length → IsBetween place e.first e.length held → place ≡ gap
  in_gap place e lt some between = elim (cases_eq place gap) [
    | inl same ↦ same
    | inr differ ↦ absurd (
        let inside : place < length held = omega (arith, lt, was.inside) in
        omega (arith, was.tight place lt differ, gap_is 0 held place e inside, between.behind e inside, some, ends_before held place e.first e.length between))
  ]

  pub more_unchanged : (place : ℕ) (e : Extent) → place ≤ length held → until ≤ place → IsPacked (record { gap = gap; until = until }) (insert held place e)
  more_unchanged place e inside le = record {
    inside = omega (arith, length-insert held place e inside, was.inside);
    tight = λ k below other. more_before 0 held place k e (omega (arith, below, le)) inside ∙ was.tight k below other;
  }

  -- the rest of the gap is in front of it
  pub more_front : (place : ℕ) (e : Extent) → place < until → 1 ≤ e.length → IsBetween place e.first e.length held → IsPacked (record { gap = place; until = place + 1 }) (insert held place e)
  more_front place e lt some between =
      let here = in_gap place e lt some between in
      record {
        inside = omega (arith, length-insert held place e between.inside, between.inside);
        tight = λ k below other. more_before 0 held place k e (omega (arith, below, other)) between.inside
            ∙ was.tight k (omega (arith, below, other, lt)) (λ same. other (omega (arith, same, here)));
      }

  -- the rest is behind it
  pub more_back : (place : ℕ) (e : Extent) → place < until → 1 ≤ e.length → IsBetween place e.first e.length held → e.first ≤ end_from 0 (take place held)
      → IsPacked (record { gap = place + 1; until = until + 1 }) (insert held place e)
  more_back place e lt some between le =
      let here = in_gap place e lt some between in
      record {
        inside = omega (arith, length-insert held place e between.inside, was.inside);
        tight = λ k below other. elim (cases_lt k place) [
          | inl low ↦ more_before 0 held place k e low between.inside ∙ was.tight k (omega (arith, low, lt)) (λ same. omega (arith, same, here, low))
          | inr high ↦ elim (cases_eq k place) [
            | inl same ↦ ap (gap_at 0 (insert held place e)) same ∙ more_at 0 held place e between.inside ∙ omega (arith, le)
            | inr differ ↦ behind k below other (omega (arith, high, differ)) here
          ]
        ];
      } where
        behind : (k : ℕ) → k < until + 1 → k ≢ place + 1 → place < k → place ≡ gap → gap_at 0 (insert held place e) k ≡ 0
        behind zero below other gt here = absurd (omega (arith, gt))
        behind (suc k) below other gt here =
            let higher : place < k = omega (arith, gt, other) in
            more_behind 0 held place k e higher between.inside ∙ was.tight k (omega (arith, below)) (λ same. omega (arith, same, here, higher))

-- ---- a search

-- no run begins in gaps that are all too short
none_in_short : (from : ℕ) (held : List Extent) (start place first count : ℕ) → AreApart from held → ((k : ℕ) → start ≤ k → k < place → gap_at from held k < count)
    → end_from from (take start held) ≤ first → first < end_from from (take place held) → IsFree first count held → ⊥
none_in_short from held start zero first count apart short ge lt is = absurd (omega (arith, lt, ge, end_behind from held start apart))
none_in_short from [] start (suc p) first count apart short ge lt is = absurd (omega (arith, lt, ge, end_behind from [] start apart))
none_in_short from (e ∷ held) zero (suc p) first count apart short ge lt is = elim is.0 [
  | inl before ↦ absurd (omega (arith, before, ge, short 0 (omega arith) (omega arith)))
  | inr behind ↦ none_in_short (e.first + e.length) held zero p first count apart.2 (λ k low below. short (suc k) (omega arith) (omega (arith, below))) behind lt is.1
]
none_in_short from (e ∷ held) (suc s) (suc p) first count apart short ge lt is =
    none_in_short (e.first + e.length) held s p first count apart.2 (λ k low below. short (suc k) (omega (arith, low)) (omega (arith, below))) ge lt is.1

pub passed : (held : List Extent) (start place count : ℕ) → AreApart 0 held → HasNoneBefore start count held → AreShort start place count held → HasNoneBefore place count held
passed held start place count apart none short first lt is = elim (cases_lt first (end_from 0 (take start held))) [
  | inl low ↦ none first low is
  | inr high ↦ none_in_short 0 held start place first count apart short high lt is
]
