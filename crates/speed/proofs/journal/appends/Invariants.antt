use Rattle.std.proofs.Common.{◌≡◌, false}
use Rattle.speed.proofs.journal.appends.Given as goal

abbrev pub invariant-bodies : goal.invariant-bodies
invariant-bodies l = l.journal.bad ≡ false
