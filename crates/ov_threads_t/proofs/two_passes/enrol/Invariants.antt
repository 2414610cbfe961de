use Rattle.ov_turn.specs.Passes.{IsPassOf}
use Rattle.ov_threads_t.proofs.two_passes.enrol.Given as goal

abbrev pub invariant-loop : goal.invariant-loop
invariant-loop g l = IsPassOf l.fn.shared l.pass
