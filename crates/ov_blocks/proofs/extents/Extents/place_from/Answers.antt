use Rattle.std.proofs.Common.{◌≡◌, arith}
use Rattle.ov_blocks.proofs.Fronts.{same_lowest}
use Rattle.ov_blocks.proofs.Lowest.{bound, early, lowest_in, near}
use Rattle.ov_blocks.proofs.extents.Extents.place_from.Goals as goal

at_lowest : (c : goal.After-lowest) → c.lowest.result ≡ lowest_in 0 c.args.blocks c.args.self.now
at_lowest c = same_lowest c.args.self.now c.args.blocks c.lowest.result c.known.ensures.order c.lowest.ensures.free c.lowest.ensures.lower

pub returns-clause-free : goal.returns-clause-free
returns-clause-free c = c.lowest.ensures.free

pub returns-clause-lowest : goal.returns-clause-lowest
returns-clause-lowest c = c.lowest.ensures.lower

pub returns-clause-end : goal.returns-clause-end
returns-clause-end c =
    let first = at_lowest c in
    let begins = early 0 c.args.blocks c.args.self.now c.requires.place.new_short c.requires.place.short in
    omega (arith, first, begins, c.requires.place.few, c.requires.place.new_short)

pub returns-clause-near : goal.returns-clause-near
returns-clause-near c =
    let first = at_lowest c in
    omega (arith, first, near 0 c.args.blocks c.args.self.now c.known.ensures.order)

pub returns-clause-bound : goal.returns-clause-bound
returns-clause-bound c =
    let first = at_lowest c in
    omega (arith, first, bound 0 c.args.blocks c.args.self.now c.known.ensures.order)
