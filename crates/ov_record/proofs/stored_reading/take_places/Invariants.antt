use Rattle.std.proofs.Common.{◌≡◌, ◌-◌}
use Rattle.std.specs.Int.{w32}
use Rattle.ov_fields.specs.Reading.{many_at, number_at}
use Rattle.ov_fields.proofs.Loops.{with_front}
use Rattle.ov_record.proofs.stored_reading.take_places.Given as goal

abbrev pub invariant-loop : goal.invariant-loop
invariant-loop l = with_front l.places (many_at (number_at w32) (l.count - l.counter) l.rest) ≡ many_at (number_at w32) l.count l.bytes
