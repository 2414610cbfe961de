use Rattle.std.proofs.Common.{arith}
use Rattle.ov_blocks.proofs.Gaps.{less_high, less_low, less_unchanged}
use Rattle.ov_blocks.proofs.packed.Packed.without.Goals.{then-self-place-via-then-self-place, then-self-place-via-else-self-place+then-self-place-2, then-self-place-via-else-self-place+else-self-place-2+then-are_short}
use Rattle.ov_blocks.proofs.packed.Packed.without.Goals as goal

pub returns-then-place-self : goal.returns-then-place-self
returns-then-place-self c =
    less_unchanged c.args.held.now c.args.self.gap c.args.self.until c.requires.packed c.args.place c.requires.inside (omega arith)

pub returns-then-self-place : goal.returns-then-self-place
returns-then-self-place c =
    less_high c.args.held.now c.args.self.gap c.args.self.until c.requires.packed c.args.place c.args.self.until (omega arith) (omega arith)
    (λ k lt other next. elim c.then-self-place.branch [
      | then-self-place-via-then-self-place w ↦ c.requires.packed.tight k lt (λ same. omega (arith, same, other, w.if-self-place.true))
      | then-self-place-via-else-self-place+then-self-place-2 w ↦ c.requires.packed.tight k lt (λ same. omega (arith, same, next, w.if-self-place-2.true))
      | then-self-place-via-else-self-place+else-self-place-2+then-are_short w ↦ omega (arith, w.if-are_short.ensures k (omega arith) lt)
    ])

pub returns-then-self-place-3 : goal.returns-then-self-place-3
returns-then-self-place-3 c =
    less_low c.args.held.now c.args.self.gap c.args.self.until c.requires.packed c.args.place (omega arith)

pub returns : goal.returns
returns c =
    less_high c.args.held.now c.args.self.gap c.args.self.until c.requires.packed c.args.place c.args.self.gap (omega arith) (omega (arith, c.if-are_short.ensures.1))
    (λ k lt other next. c.requires.packed.tight k (omega (arith, lt, c.if-are_short.ensures.1)) (λ same. omega (arith, same, lt)))
