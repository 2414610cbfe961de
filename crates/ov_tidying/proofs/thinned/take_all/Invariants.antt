use Rattle.std.proofs.Common.{◌+◌, ◌≤◌, length}
use Rattle.ov_replaying.specs.Reading.{StaysAsItWas}
use Rattle.ov_tidying.specs.Taking.{TakesEach}
use Rattle.ov_tidying.proofs.thinned.take_all.Given as goal

-- so many updates were taken, and nothing was written
abbrev pub invariant-updates : goal.invariant-updates
invariant-updates g l = record {
  taken : TakesEach g.D.Disk.tells l.fn.store l.i l.thin;
  few : length l.thin.kept ≤ length l.fn.thin.kept + l.i;
  stays : StaysAsItWas g.D.Disk.tells l.fn.store l.store ⊥;
}
