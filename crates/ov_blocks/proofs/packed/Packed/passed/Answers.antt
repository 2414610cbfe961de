use Rattle.std.proofs.Common.{arith}
use Rattle.ov_blocks.proofs.Gaps.{passed}
use Rattle.ov_blocks.proofs.packed.Packed.passed.Goals as goal

pub returns-then-are_short-clause-none : goal.returns-then-are_short-clause-none
returns-then-are_short-clause-none c =
    passed c.args.held.now c.args.start c.args.self.until c.args.blocks c.requires.apart c.requires.none c.if-are_short.ensures

pub returns-clause-none : goal.returns-clause-none
returns-clause-none c =
    passed c.args.held.now c.args.start c.args.self.gap c.args.blocks c.requires.apart c.requires.none
    (λ k ge lt. omega (arith, c.requires.packed.tight k (omega (arith, lt, c.if-are_short.ensures.1)) (λ same. omega (arith, same, lt)), c.requires.some))
