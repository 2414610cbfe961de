use Rattle.std.proofs.Common.{ap, arith}
use Rattle.ov_blocks.specs.Extents.{end_from}
use Rattle.ov_blocks.proofs.Gaps.{more_back, more_front, more_unchanged}
use Rattle.ov_blocks.proofs.packed.Packed.with.Goals as goal

pub returns-then-place-self : goal.returns-then-place-self
returns-then-place-self c list was between same =
    more_unchanged list c.args.self.gap c.args.self.until was c.args.place c.args.extent between.inside (omega arith)

pub returns-then-end_before-extent : goal.returns-then-end_before-extent
returns-then-end_before-extent c list was between same =
    more_front list c.args.self.gap c.args.self.until was c.args.place c.args.extent (omega arith) c.requires.some between

pub returns : goal.returns
returns c list was between same =
    more_back list c.args.self.gap c.args.self.until was c.args.place c.args.extent (omega arith) c.requires.some between (omega (arith, c.end_before.ensures, ap (end_from 0) same))
