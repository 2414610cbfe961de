use Rattle.std.proofs.Common.{inl, inr, ◌<◌, length, ap, arith}
use Rattle.std.proofs.lemmas.List.{get_or_default}
use Rattle.ov_blocks.specs.declared.extents.Extent.{Extent}
use Rattle.ov_blocks.proofs.Fronts.{end_is, in_last}
use Rattle.ov_blocks.proofs.Places.{one, beside_at}
use Rattle.ov_blocks.proofs.free.is_free.Goals as goal

pub returns-then-end_before-first : goal.returns-then-end_before-first
returns-then-end_before-first c free =
    in_last c.args.held.now c.args.first c.args.place c.args.first c.args.length c.requires.apart c.requires.place (omega arith) (omega (arith, c.end_before.ensures)) free

pub returns-then-behind-first : goal.returns-then-behind-first
returns-then-behind-first c free =
    let k = c.args.place in
    let inside : k < length c.args.held.now = omega arith in
    let higher = c.requires.place.behind k (record { first = 0; length = 0 }) (omega arith) inside in
    let here = one 0 c.args.held.now k (record { first = 0; length = 0 }) c.requires.apart inside in
    elim (beside_at c.args.first c.args.length c.args.held.now k (record { first = 0; length = 0 }) free inside) [
      | inl before ↦ absurd (omega (arith, before))
      | inr behind ↦ absurd (omega (arith, behind, higher, here.some))
    ]

pub returns-else-behind-first : goal.returns-else-behind-first
returns-else-behind-first c = record {
  inside = c.requires.place.inside;
  before = end_is c.args.held.now c.args.place c.args.first c.requires.place.inside (omega (arith, c.end_before.ensures));
  behind = λ d lt. omega (arith, ap (λ (e : Extent). e.first) (get_or_default c.args.held.now c.args.place d (record { first = 0; length = 0 }) lt));
}

pub returns-else-place-held : goal.returns-else-place-held
returns-else-place-held c = record {
  inside = c.requires.place.inside;
  before = end_is c.args.held.now c.args.place c.args.first c.requires.place.inside (omega (arith, c.end_before.ensures));
  behind = λ d lt. absurd (omega (arith, lt));
}
