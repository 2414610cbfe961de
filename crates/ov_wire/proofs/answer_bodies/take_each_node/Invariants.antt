use Rattle.std.proofs.Common.{◌≡◌, ◌-◌}
use Rattle.ov_fields.specs.Reading.{many_at}
use Rattle.ov_wire.specs.Entries.{node_at}
use Rattle.ov_fields.proofs.Loops.{with_front}
use Rattle.ov_wire.proofs.answer_bodies.take_each_node.Given as goal

abbrev pub invariant-loop : goal.invariant-loop
invariant-loop l = with_front l.nodes (many_at node_at (l.count - l.counter) l.rest) ≡ many_at node_at l.count l.bytes
