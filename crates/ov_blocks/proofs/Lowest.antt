-- The lowest free run.
use Rattle.std.proofs.Common.{◌≡◌, ◌⊎◌, inl, inr, ℕ, suc, ◌+◌, ◌-◌, ◌*◌, ◌≤◌, ◌<◌, List, [], ◌∷◌, length, drop, get_or, Bool, leb, if◌then◌else◌, sym, ◌∙◌, ap, subst, arith}
use Rattle.std.specs.Prelude.{All}
use Rattle.std.proofs.lemmas.Bool.Decides.{leb_tells}
use Rattle.std.proofs.lemmas.List.{at_drop_more}
use Rattle.ov_blocks.specs.declared.extents.Extent.{Extent}
use Rattle.ov_blocks.specs.declared.extents.TheConstants.{MAX_BLOCKS}
use Rattle.ov_blocks.specs.Extents.{AreApart, IsFree, blocks_held, end_from}

-- the lowest first block, from `from` on, of a run of so many that ends before one of these extents begins, or of the run behind them
abbrev pub lowest_in : ℕ → ℕ → List Extent → ℕ
lowest_in from count [] = from
lowest_in from count (e ∷ held) = if leb (from + count) e.first then from else lowest_in (e.first + e.length) count held

-- a run that ends before all of them
pub free_before : (from first count : ℕ) (held : List Extent) → AreApart from held → first + count ≤ from → IsFree first count held
free_before from first count [] apart le = tt
free_before from first count (e ∷ held) apart le =
    (inl (omega (arith, apart.0, le)), free_before (e.first + e.length) first count held apart.2 (omega (arith, apart.0, le)))

-- what the first extent decides
step : (from count : ℕ) (e : Extent) (held : List Extent) → (from + count ≤ e.first) × (lowest_in from count (e ∷ held) ≡ from)
    ⊎ (e.first < from + count) × (lowest_in from count (e ∷ held) ≡ lowest_in (e.first + e.length) count held)
step from count e held = elim (leb_tells (from + count) e.first) [
  | inl fits ↦ inl (fits.1, ap (λ (b : Bool). if b then from else lowest_in (e.first + e.length) count held) fits.0)
  | inr not ↦ inr (omega (arith, not.1), ap (λ (b : Bool). if b then from else lowest_in (e.first + e.length) count held) not.0)
]

pub least : (from count : ℕ) (held : List Extent) → AreApart from held → from ≤ lowest_in from count held
least from count [] apart = omega arith
least from count (e ∷ held) apart = elim (step from count e held) [
  | inl fits ↦ omega (arith, fits.1)
  | inr not ↦ omega (arith, not.1, apart.0, least (e.first + e.length) count held apart.2)
]

pub free : (from count : ℕ) (held : List Extent) → AreApart from held → IsFree (lowest_in from count held) count held
free from count [] apart = tt
free from count (e ∷ held) apart = elim (step from count e held) [
  | inl fits ↦ subst (λ (n : ℕ). IsFree n count (e ∷ held)) (sym fits.1)
      (inl fits.0, free_before (e.first + e.length) from count held apart.2 (omega (arith, fits.0)))
  | inr not ↦ subst (λ (n : ℕ). IsFree n count (e ∷ held)) (sym not.1)
      (inr (least (e.first + e.length) count held apart.2), free (e.first + e.length) count held apart.2)
]

pub lowest : (from count : ℕ) (held : List Extent) (first : ℕ) → from ≤ first → first < lowest_in from count held → IsFree first count held → ⊥
lowest from count [] first ge lt is = absurd (omega (arith, ge, lt))
lowest from count (e ∷ held) first ge lt is = elim (step from count e held) [
  | inl fits ↦ absurd (omega (arith, ge, lt, fits.1))
  | inr not ↦ elim is.0 [
    | inl before ↦ absurd (omega (arith, ge, before, not.0))
    | inr behind ↦ lowest (e.first + e.length) count held first behind (omega (arith, lt, not.1)) is.1
  ]
]

pub near : (from count : ℕ) (held : List Extent) → AreApart from held → lowest_in from count held ≤ end_from from held
near from count [] apart = omega arith
near from count (e ∷ held) apart = elim (step from count e held) [
  | inl fits ↦ omega (arith, fits.1, apart.0, apart.1, end_least (e.first + e.length) held apart.2)
  | inr not ↦ omega (arith, not.1, near (e.first + e.length) count held apart.2)
] where
  end_least : (from : ℕ) (held : List Extent) → AreApart from held → from ≤ end_from from held
  end_least from [] apart = omega arith
  end_least from (e ∷ held) apart = omega (arith, apart.0, apart.1, end_least (e.first + e.length) held apart.2)

-- each gap that is passed over is shorter than the run
pub bound : (from count : ℕ) (held : List Extent) → AreApart from held → lowest_in from count held ≤ from + (blocks_held held + length held * (count - 1))
bound from count [] apart = omega arith
bound from count (e ∷ held) apart = elim (step from count e held) [
  | inl fits ↦ omega (arith, fits.1)
  | inr not ↦ omega (arith, apart.0, not.0, not.1, bound (e.first + e.length) count held apart.2)
]

-- with gaps and extents that are short, each new run begins early
pub early : (from count : ℕ) (held : List Extent) → count ≤ 4096 → All (λ (e : Extent). e.length ≤ 4096) held → lowest_in from count held ≤ from + 8192 * length held
early from count [] new short = omega arith
early from count (e ∷ held) new short = elim (step from count e held) [
  | inl fits ↦ omega (arith, fits.1)
  | inr not ↦
      let long : e.length ≤ 4096 = short 0 e (omega arith) in
      let more = early (e.first + e.length) count held new (λ k d lt. short (suc k) d (omega (arith, lt))) in
      omega (arith, not.0, not.1, more, long, new)
]

-- all of them begin and end where blocks end, or before
pub within : (from : ℕ) (held : List Extent) → AreApart from held → from ≤ MAX_BLOCKS
within from [] apart = apart
within from (e ∷ held) apart = omega (arith, apart.0, apart.1, within (e.first + e.length) held apart.2)

-- ---- a walk over them

module _ (held : List Extent) (i from count : ℕ) (d : Extent) (lt : i < length held) where
  pub opened : {Y : Type 0} (F : List Extent → Y) → F (drop i held) ≡ F (get_or held i d ∷ drop (i + 1) held)
  opened F = at_drop_more F held i d lt

  pub apart_at : AreApart from (drop i held) → (from ≤ (get_or held i d).first) × (1 ≤ (get_or held i d).length) × AreApart ((get_or held i d).first + (get_or held i d).length) (drop (i + 1) held)
  apart_at apart = subst (λ (l : List Extent). AreApart from l) (opened (λ (l : List Extent). l)) apart

  pub stops : from + count ≤ (get_or held i d).first → lowest_in from count (drop i held) ≡ from
  stops le = elim (step from count (get_or held i d) (drop (i + 1) held)) [
    | inl fits ↦ opened (lowest_in from count) ∙ fits.1
    | inr not ↦ absurd (omega (arith, le, not.0))
  ]

  pub goes_on : (get_or held i d).first < from + count → lowest_in from count (drop i held) ≡ lowest_in ((get_or held i d).first + (get_or held i d).length) count (drop (i + 1) held)
  goes_on lt = elim (step from count (get_or held i d) (drop (i + 1) held)) [
    | inl fits ↦ absurd (omega (arith, lt, fits.0))
    | inr not ↦ opened (lowest_in from count) ∙ not.1
  ]
