use Rattle.std.proofs.Common.{◌≡◌, drop}
use Rattle.ov_blocks.specs.Extents.{AreApart}
use Rattle.ov_blocks.proofs.Lowest.{lowest_in}
use Rattle.ov_blocks.proofs.free.lowest_behind.Given as goal

abbrev pub invariant-loop-extent : goal.invariant-loop-extent
invariant-loop-extent l = record {
  apart : AreApart l.first (drop l.extent-index l.held);
  lowest : lowest_in l.first l.blocks (drop l.extent-index l.held) ≡ lowest_in l.from l.blocks l.held;
}
