use Rattle.std.proofs.Common.{◌≡◌, ◌-◌}
use Rattle.ov_fields.specs.Reading.{many_at, rest_of}
use Rattle.ov_wire.specs.Entries.{edge_at}
use Rattle.ov_wire.proofs.entries.skip_each_edge.Given as goal

abbrev pub invariant-loop : goal.invariant-loop
invariant-loop l = rest_of (many_at edge_at (l.count - l.counter) l.rest) ≡ rest_of (many_at edge_at l.count l.bytes)
