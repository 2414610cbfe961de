-- Which blocks are free doesn't depend on the order of the extents in use.
use Rattle.std.proofs.Common.{inl, inr, ℕ, zero, suc, List, [], ◌∷◌, refl, subst, arith}
use Rattle.std.specs.Prelude.{Contains}
use Rattle.ov_blocks.specs.Extents.{IsBeside, IsFree}
use Rattle.ov_blocks.specs.declared.extents.Extent.{Extent}
use Rattle.ov_images.specs.Extents.{AllTakeFree, IsFirstTaken, TakesFree}
use Rattle.ov_images.specs.Laws.{FreeNeedsNoOrder, HaveSameExtents}

-- ---- lists with the same extents

-- the extents of the one list are among those of the other
abbrev AreAmong : List Extent → List Extent → Type 0
AreAmong one other = (e : Extent) → Contains one e → Contains other e

among_more : (x : Extent) (one other : List Extent) → AreAmong one other
    → AreAmong (x ∷ one) (x ∷ other)
among_more x one other among e (zero, below, is) = (zero, omega arith, is)
among_more x one other among e (suc k, below, is) =
    let there = among e (k, omega (arith, below), is) in
    (suc there.0, omega (arith, there.1), there.2)

same_more : (x : Extent) (one other : List Extent) → HaveSameExtents one other
    → HaveSameExtents (x ∷ one) (x ∷ other)
same_more x one other same = record {
  there = among_more x one other same.there;
  back = among_more x other one same.back;
}

turned : (one other : List Extent) → HaveSameExtents one other → HaveSameExtents other one
turned one other same = record { there = same.back; back = same.there }

-- ---- free runs

module _ (first count : ℕ) where
  beside_each : (used : List Extent) (e : Extent) → IsFree first count used → Contains used e
      → IsBeside first count e
  beside_each [] e free (k, below, is) = absurd (omega (arith, below))
  beside_each (x ∷ used) e free (zero, below, is) = subst (IsBeside first count) is free.0
  beside_each (x ∷ used) e free (suc k, below, is) =
      beside_each used e free.1 (k, omega (arith, below), is)

  free_among : (used held : List Extent) → AreAmong held used → IsFree first count used
      → IsFree first count held
  free_among used [] among free = tt
  free_among used (e ∷ held) among free = (
    beside_each used e free (among e (zero, omega arith, refl)),
    free_among used held
        (λ x there. among x (suc there.0, omega (arith, there.1), there.2)) free,
  )

module _ (blocks : ℕ) where
  takes_among : (used held : List Extent) (e : Extent) → HaveSameExtents used held
      → TakesFree blocks used e → TakesFree blocks held e
  takes_among used held e same takes =
      (takes.0, free_among e.first e.length used held same.back takes.1)

  all_among : (used held new : List Extent) → HaveSameExtents used held
      → AllTakeFree blocks used new → AllTakeFree blocks held new
  all_among used held [] same all = tt
  all_among used held (e ∷ new) same all = (
    takes_among used held e same all.0,
    all_among (e ∷ used) (e ∷ held) new (same_more e used held same) all.1,
  )

  taken_among : (used held new : List Extent) (first : ℕ) → HaveSameExtents used held
      → IsFirstTaken blocks used new first → IsFirstTaken blocks held new first
  taken_among used held [] first same taken = taken
  taken_among used held (e ∷ new) first same (inl taken) =
      inl (λ free. taken.0 (takes_among held used e (turned used held same) free), taken.1)
  taken_among used held (e ∷ new) first same (inr taken) =
      inr (
        takes_among used held e same taken.0,
        taken_among (e ∷ used) (e ∷ held) new first (same_more e used held same) taken.1,
      )

pub free_needs_no_order : FreeNeedsNoOrder
free_needs_no_order blocks used held new same =
    (all_among blocks used held new same, λ first. taken_among blocks used held new first same)
