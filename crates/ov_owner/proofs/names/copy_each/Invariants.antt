use Rattle.std.proofs.Common.{◌≡◌, take}
use Rattle.ov_owner.proofs.names.copy_each.Given as goal

abbrev pub invariant-loop-name : goal.invariant-loop-name
invariant-loop-name l = l.copy ≡ take l.name-index l.names
