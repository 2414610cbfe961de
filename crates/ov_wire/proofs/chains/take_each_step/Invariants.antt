use Rattle.std.proofs.Common.{◌≡◌, ◌-◌}
use Rattle.ov_fields.specs.Reading.{many_at}
use Rattle.ov_fields.proofs.Loops.{with_front}
use Rattle.ov_wire.specs.Chains.{step_at, kinds_of}
use Rattle.ov_wire.proofs.chains.take_each_step.Given as goal

abbrev pub invariant-loop : goal.invariant-loop
invariant-loop l =
    with_front l.steps (many_at (step_at (kinds_of l.side l.count)) (l.count - l.counter) l.rest) ≡ many_at (step_at (kinds_of l.side l.count)) l.count l.bytes
