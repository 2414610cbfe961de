-- Held extents are apart, so what is changed in one leaves the bytes of all others.
use Rattle.std.proofs.Common.{◌≡◌, ◌≢◌, ◌⊎◌, inl, inr, ℕ, ◌+◌, ◌≤◌, List, get_or, sym, ◌∙◌, ap, arith}
use Rattle.std.specs.Prelude.{Contains}
use Rattle.std.proofs.lemmas.List.{get_or_default}
use Rattle.std.proofs.lemmas.Bool.{cases_lt, cases_eq}
use Rattle.ov_disk.specs.Disk.{Image}
use Rattle.ov_blocks.specs.declared.extents.Extent.{Extent}
use Rattle.ov_blocks.specs.Writes.{place_in_blobs, IsChangedIn, HasSameBytes, PutsInto}
use Rattle.ov_blocks.specs.Extents.{AreApart, IsInside, ShareNoBlock}
use Rattle.ov_blocks.proofs.Places.{in_order}

-- two that are held, at two places of the list
apart : (held : List Extent) (one other : Extent) → AreApart 0 held → (a : Contains held one) → (b : Contains held other) → other.first ≢ one.first
    → (one.first + one.length ≤ other.first) ⊎ (other.first + other.length ≤ one.first)
apart held one other all a b differ = elim (cases_eq a.0 b.0) [
  | inl same ↦ absurd (differ (
      ap (λ (e : Extent). e.first) (sym b.2 ∙ ap (λ (k : ℕ). get_or held k other) (sym same) ∙ get_or_default held a.0 other one a.1 ∙ a.2)))
  | inr not ↦ elim (cases_lt a.0 b.0) [
    | inl lt ↦
        let le = in_order 0 held a.0 b.0 one all lt b.1 in
        let here : get_or held b.0 one ≡ other = get_or_default held b.0 one other b.1 ∙ b.2 in
        inl (omega (arith, le, ap (λ (e : Extent). e.first) a.2, ap (λ (e : Extent). e.length) a.2, ap (λ (e : Extent). e.first) here))
    | inr ge ↦
        let le = in_order 0 held b.0 a.0 one all (omega (arith, ge, not)) a.1 in
        let here : get_or held b.0 one ≡ other = get_or_default held b.0 one other b.1 ∙ b.2 in
        inr (omega (arith, le, ap (λ (e : Extent). e.first) a.2, ap (λ (e : Extent). e.first) here, ap (λ (e : Extent). e.length) here))
  ]
]

-- whatever is changed in the range of a held extent
others : (held : List Extent) (first start count : ℕ) (old new : Image) → AreApart 0 held → IsInside first start count held → IsChangedIn (place_in_blobs first start) count old new
    → (other : Extent) → Contains held other → other.first ≢ first → HasSameBytes other old new
others held first start count old new all inside changed other is differ p low high lt =
    changed.outside p lt (elim (apart held inside.extent other all inside.is_held is (λ same. differ (same ∙ inside.first_is))) [
      | inl before ↦ inr (omega (arith, before, inside.first_is, inside.inside, low))
      | inr behind ↦ inl (omega (arith, behind, inside.first_is, high))
    ])

pub puts_into : (held : List Extent) (first start count : ℕ) (old new : Image) → AreApart 0 held → IsInside first start count held → IsChangedIn (place_in_blobs first start) count old new → PutsInto first start count held old new
puts_into held first start count old new all inside changed = record { range = changed; others = others held first start count old new all inside changed }

-- the places of two extents that have a block in common
pub share_no_block : (held : List Extent) → AreApart 0 held → ShareNoBlock held
share_no_block held all block i j d in_i in_j here there = elim (cases_eq i j) [
  | inl same ↦ same
  | inr not ↦ elim (cases_lt i j) [
    | inl lt ↦ absurd (omega (arith, in_order 0 held i j d all lt in_j, here, there))
    | inr ge ↦ absurd (omega (arith, in_order 0 held j i d all (omega (arith, ge, not)) in_i, here, there))
  ]
]
