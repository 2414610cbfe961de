use Rattle.std.proofs.Common.{take}
use Rattle.ov_blocks.specs.Extents.{AreGivenUp}
use Rattle.ov_blocks.proofs.extents.Extents.release_each.Given as goal

abbrev pub invariant-loop-first : goal.invariant-loop-first
invariant-loop-first l = AreGivenUp (take l.first-index l.gone) l.fn.self l.self
