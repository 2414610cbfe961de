use Rattle.std.proofs.Common.{◌≡◌, ◌≤◌, ◌<◌, ◌+◌, ◌∙◌, ℕ, List, length, get_or, ap, arith}
use Rattle.std.specs.List.{remove}
use Rattle.std.proofs.lemmas.List.{get_or_default}
use Rattle.std.proofs.lemmas.List.Edits.{get_or-remove_above, length-remove}
use Rattle.ov_blocks.specs.declared.extents.Extent.{Extent}
use Rattle.ov_blocks.proofs.Fronts.{end_is, ends_before}
use Rattle.ov_blocks.proofs.Left.{end_left}
use Rattle.ov_blocks.proofs.gap.fits.Goals as goal

pub returns-then-end_before-first : goal.returns-then-end_before-first
returns-then-end_before-first c is =
    omega (arith, c.end_before.ensures, end_left c.args.held.now c.args.place, ends_before (remove c.args.held.now c.args.place) c.args.place c.args.first c.args.blocks is)

-- what stands at the place, once the extent is gone
next : (held : List Extent) (place : ℕ) (d : Extent) → place + 1 < length held → (get_or (remove held place) place d).first ≡ (get_or held (place + 1) (record { first = 0; length = 0 })).first
next held place d lt =
    ap (λ (e : Extent). e.first) (get_or-remove_above held place d place (omega arith) (omega (arith, lt)) ∙ get_or_default held (place + 1) d (record { first = 0; length = 0 }) lt)

pub returns-then-behind-first : goal.returns-then-behind-first
returns-then-behind-first c is =
    let left = length-remove c.args.held.now c.args.place c.requires.inside in
    let d : Extent = record { first = 0; length = 0 } in
    omega (arith, is.behind d (omega (arith, left)), next c.args.held.now c.args.place d (omega arith))

pub returns-else-behind-first : goal.returns-else-behind-first
returns-else-behind-first c =
    let left = length-remove c.args.held.now c.args.place c.requires.inside in
    let inside : c.args.place ≤ length (remove c.args.held.now c.args.place) = omega (arith, left, c.requires.inside) in
    record {
      inside = inside;
      before = end_is (remove c.args.held.now c.args.place) c.args.place c.args.first inside (omega (arith, c.end_before.ensures, end_left c.args.held.now c.args.place));
      behind = λ d lt. omega (arith, next c.args.held.now c.args.place d (omega arith));
    }

pub returns-else-place-held : goal.returns-else-place-held
returns-else-place-held c =
    let left = length-remove c.args.held.now c.args.place c.requires.inside in
    let inside : c.args.place ≤ length (remove c.args.held.now c.args.place) = omega (arith, left, c.requires.inside) in
    record {
      inside = inside;
      before = end_is (remove c.args.held.now c.args.place) c.args.place c.args.first inside (omega (arith, c.end_before.ensures, end_left c.args.held.now c.args.place));
      behind = λ d lt. absurd (omega (arith, lt, left));
    }
