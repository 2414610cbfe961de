use Rattle.std.specs.Prelude.{◌≤◌}
use Rattle.ov_turn.specs.Passes.{IsPassOf}
use Rattle.ov_threads_t.proofs.two_passes.enrol_all.Given as goal

abbrev pub invariant-loop-number : goal.invariant-loop-number
invariant-loop-number g l = record {
  own : IsPassOf l.fn.shared l.pass;
  few : l.accepted ≤ l.number;
}
