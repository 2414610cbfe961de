use Rattle.ov_blocks.specs.Gaps.{IsPacked}
use Rattle.ov_blocks.proofs.packed.Packed.further.Given as goal

abbrev pub invariant-loop-until : goal.invariant-loop-until
invariant-loop-until l = IsPacked (record { gap = l.gap; until = l.until }) l.held
