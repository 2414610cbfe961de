use Rattle.std.proofs.Common.{◌≡◌}
use Rattle.ov_script.proofs.single.workload.Given as goal

abbrev pub invariant-places : goal.invariant-places
invariant-places l = l.workload ≡ record { number = l.number; count = l.count; place = l._before }
