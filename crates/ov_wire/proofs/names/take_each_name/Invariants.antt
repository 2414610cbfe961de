use Rattle.std.proofs.Common.{◌≡◌, ◌-◌, []}
use Rattle.ov_fields.proofs.Loops.{with_front}
use Rattle.ov_wire.specs.RequestReading.{new_names_at}
use Rattle.ov_wire.proofs.names.take_each_name.Given as goal

abbrev pub invariant-loop : goal.invariant-loop
invariant-loop l = with_front l.names (new_names_at (l.count - l.counter) l.names l.rest) ≡ new_names_at l.count [] l.bytes
