use Rattle.std.proofs.Common.{◌≡◌, ◌<◌, ◌≤◌, ◌+◌, ℕ, List, length, take, sym, ◌∙◌, ap, subst, rules, tests}
use Rattle.std.specs.Prelude.{slice_set}
use Rattle.std.specs.List.{insert, remove}
use Rattle.std.proofs.lemmas.List.{get_or_default}
use Rattle.ov_blocks.specs.declared.extents.Extent.{Extent}
use Rattle.ov_blocks.specs.declared.extents.TheConstants.{MAX_BLOCKS}
use Rattle.ov_blocks.specs.Extents.{AreApart}
use Rattle.ov_blocks.specs.Gaps.{IsPacked}
use Rattle.ov_blocks.specs.Places.{IsBetween}
use Rattle.ov_blocks.proofs.Left.{replaced, same_is, set_is, take_left}
use Rattle.ov_blocks.proofs.slots.Slots.replace.Goals as goal

pub returns-then-eq : goal.returns-then-eq
returns-then-eq c =
    let items = c.self.inside.extents.items in
    let lt : c.args.place < length items = subst (λ l. c.args.place < length l) (sym c.self.view_is) c.requires.inside in
    let same : c.index.result.now ≡ c.args.extent = search (rules, tests) in
    subst (λ l. l ≡ insert (remove l c.args.place) c.args.place c.args.extent) c.self.view_is
    (same_is items c.args.place c.args.extent lt (get_or_default items c.args.place c.args.extent c.index.result.now lt ∙ sym c.index.ensures ∙ same))

-- what the slots are then
then_is : (items held : List Extent) (place : ℕ) (e : Extent) → items ≡ held → place < length held → slice_set items place e ≡ insert (remove items place) place e
then_is items held place e is inside = set_is items place e (subst (λ l. place < length l) (sym is) inside)

then_apart : (items held : List Extent) (place : ℕ) (e : Extent) → items ≡ held → AreApart 0 items → place < length held → 1 ≤ e.length → e.first + e.length ≤ MAX_BLOCKS
    → IsBetween place e.first e.length (remove held place) → AreApart 0 (slice_set items place e)
then_apart items held place e is apart inside some ends between =
    subst (AreApart 0) (sym (then_is items held place e is inside))
    (replaced items place e apart some ends (subst (λ l. IsBetween place e.first e.length (remove l place)) (sym is) between))

pub further-self-inside-requires-clause-apart : goal.further-self-inside-requires-clause-apart
further-self-inside-requires-clause-apart c = subst (AreApart 0) (sym c.deref-3.ensures.value)
    (then_apart c.self.inside.extents.items c.args.self.now c.args.place c.args.extent c.self.view_is c.self.invariant.0 c.requires.inside c.requires.some c.requires.within c.requires.between)

pub further-self-inside-requires-clause-packed : goal.further-self-inside-requires-clause-packed
further-self-inside-requires-clause-packed c =
    let items = c.self.inside.extents.items in
    subst (λ l. IsPacked c.with-packed.result l) (sym (c.deref-3.ensures.value ∙ then_is items c.args.self.now c.args.place c.args.extent c.self.view_is c.requires.inside))
    (c.with-packed.ensures (remove items c.args.place)
    (subst (λ l. IsPacked c.without-without.result (remove l c.args.place)) c.deref.ensures.value c.without-without.ensures)
    (subst (λ l. IsBetween c.args.place c.args.extent.first c.args.extent.length (remove l c.args.place)) (sym c.self.view_is) c.requires.between)
    (take_left items c.args.place ∙ ap (take c.args.place) (sym c.deref-2.ensures.value)))

pub invariant_of-self : goal.invariant_of-self
invariant_of-self c = (
  then_apart c.self.inside.extents.items c.args.self.now c.args.place c.args.extent c.self.view_is c.self.invariant.0 c.requires.inside c.requires.some c.requires.within c.requires.between,
  subst (λ l. IsPacked c.further-self-inside.result l) c.deref-3.ensures.value c.further-self-inside.ensures,
)

pub returns : goal.returns
returns c =
    subst (λ l. slice_set c.self.inside.extents.items c.args.place c.args.extent ≡ insert (remove l c.args.place) c.args.place c.args.extent) c.self.view_is
    (then_is c.self.inside.extents.items c.args.self.now c.args.place c.args.extent c.self.view_is c.requires.inside)
