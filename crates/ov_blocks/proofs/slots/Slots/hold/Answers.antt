use Rattle.std.proofs.Common.{◌≡◌, ◌+◌, ◌≤◌, ℕ, List, sym, ◌∙◌, subst, arith}
use Rattle.std.specs.List.{insert}
use Rattle.ov_blocks.specs.declared.extents.Extent.{Extent}
use Rattle.ov_blocks.specs.declared.extents.TheConstants.{MAX_BLOCKS}
use Rattle.ov_blocks.specs.Extents.{AreApart, IsFree, IsWith}
use Rattle.ov_blocks.specs.Gaps.{IsPacked}
use Rattle.ov_blocks.specs.Places.{IsBetween}
use Rattle.ov_blocks.proofs.Places.{is_free, inserted, is_with}
use Rattle.ov_blocks.proofs.slots.Slots.hold.Goals as goal

now_apart : (old new : List Extent) (place first count : ℕ) → AreApart 0 old → 1 ≤ count → first + count ≤ MAX_BLOCKS → IsBetween place first count old
    → new ≡ insert old place (record { first = first; length = count }) → AreApart 0 new
now_apart old new place first count apart some ends between is =
    subst (AreApart 0) (sym is) (inserted 0 old place (record { first = first; length = count }) apart (omega arith) some ends between)

pub further-self-inside-requires-clause-apart : goal.further-self-inside-requires-clause-apart
further-self-inside-requires-clause-apart c =
    now_apart c.self.inside.extents.items c.deref-4.result.now c.count_before-place.result c.args.first c.args.length c.self.invariant.0 c.requires.some c.requires.within
    (subst (λ l. IsBetween c.count_before-place.result c.args.first c.args.length l) c.deref-2.ensures.value c.if-not-is_free.ensures)
    (c.deref-4.ensures.value ∙ c.in_ok-insert.ensures.items)

pub invariant_of-self-2 : goal.invariant_of-self-2
invariant_of-self-2 c = (
  now_apart c.self.inside.extents.items c.insert.new.self.items c.count_before-place.result c.args.first c.args.length c.self.invariant.0 c.requires.some c.requires.within
      (subst (λ l. IsBetween c.count_before-place.result c.args.first c.args.length l) c.deref-2.ensures.value c.if-not-is_free.ensures)
      c.in_ok-insert.ensures.items,
  subst (λ l. IsPacked c.further-self-inside.result l) c.deref-4.ensures.value c.further-self-inside.ensures,
)

pub returns-clause-ok : goal.returns-clause-ok
returns-clause-ok c =
    subst (λ l. IsFree c.args.first c.args.length l × IsWith (record { first = c.args.first; length = c.args.length }) l c.insert.new.self.items) c.self.view_is (
      is_free 0 c.self.inside.extents.items c.count_before-place.result c.args.first c.args.length c.self.invariant.0
          (subst (λ l. IsBetween c.count_before-place.result c.args.first c.args.length l) c.deref-2.ensures.value c.if-not-is_free.ensures),
      is_with (record { first = c.args.first; length = c.args.length }) c.self.inside.extents.items c.insert.new.self.items c.count_before-place.result c.in_ok-insert.ensures.items,
    )
