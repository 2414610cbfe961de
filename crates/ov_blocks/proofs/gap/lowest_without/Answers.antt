use Rattle.std.proofs.Common.{arith}
use Rattle.std.specs.List.{remove}
use Rattle.ov_blocks.specs.declared.extents.Extent.{Extent}
use Rattle.ov_blocks.proofs.Fronts.{end_is, ends_before}
use Rattle.ov_blocks.proofs.Gaps.{ends_at}
use Rattle.ov_blocks.proofs.Left.{end_left, lowest_in_gap, lowest_stays}
use Rattle.ov_blocks.proofs.Places.{one}
use Rattle.ov_blocks.proofs.gap.lowest_without.Goals.{else-start-lowest-via-then-start-lowest+else-fits, else-start-lowest-via-else-start-lowest}
use Rattle.ov_blocks.proofs.gap.lowest_without.Goals as goal

pub fits-requires-clause-within : goal.fits-requires-clause-within
fits-requires-clause-within c =
    let d : Extent = record { first = 0; length = 0 } in
    let here = one 0 c.args.held.now c.args.place d c.requires.apart c.requires.inside in
    omega (arith, c.end_before-start.ensures, ends_at 0 c.args.held.now c.args.place d c.requires.apart c.requires.inside, here.ends, c.requires.short)

pub returns-then-fits : goal.returns-then-fits
returns-then-fits c =
    lowest_in_gap c.args.held.now c.args.place c.args.blocks c.args.lowest c.requires.apart c.requires.inside c.requires.lowest
    c.end_before-start.result c.end_before-start.ensures (omega arith) c.if-fits.ensures

pub returns : goal.returns
returns c =
    let others = remove c.args.held.now c.args.place in
    lowest_stays c.args.held.now c.args.place c.args.blocks c.args.lowest c.requires.apart c.requires.inside c.requires.lowest
    (λ other less gap.
    let behind = ends_before others c.args.place other c.args.blocks gap in
    elim c.else-start-lowest.branch [
      | else-start-lowest-via-then-start-lowest+else-fits w ↦ w.if-fits.ensures (record {
        inside = gap.inside;
        before = end_is others c.args.place c.end_before-start.result gap.inside (omega (arith, c.end_before-start.ensures, end_left c.args.held.now c.args.place));
        behind = λ d lt. omega (arith, gap.behind d lt, behind, c.end_before-start.ensures, end_left c.args.held.now c.args.place);
      })
      | else-start-lowest-via-else-start-lowest w ↦ omega (arith, less, behind, c.end_before-start.ensures, end_left c.args.held.now c.args.place, w.if-start-lowest.false)
    ])
