use Rattle.std.proofs.Common.{arith}
use Rattle.ov_blocks.proofs.Gaps.{ends_at, gap_is}
use Rattle.ov_blocks.proofs.packed.gap_before.Goals as goal

pub overflow_sub-result : goal.overflow_sub-result
overflow_sub-result c =
    omega (arith, c.end_before.ensures, ends_at 0 c.args.held.now c.args.place (record { first = 0; length = 0 }) c.requires.apart c.requires.inside)

pub returns : goal.returns
returns c = omega (arith, c.end_before.ensures, gap_is 0 c.args.held.now c.args.place (record { first = 0; length = 0 }) c.requires.inside)
