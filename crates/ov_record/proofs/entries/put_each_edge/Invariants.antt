use Rattle.std.proofs.Common.{◌≡◌, ◌++◌, take}
use Rattle.std.specs.List.{flat_map}
use Rattle.ov_fields.specs.Entries.{edge_field}
use Rattle.ov_record.proofs.entries.put_each_edge.Given as goal

abbrev pub invariant-loop-edge : goal.invariant-loop-edge
invariant-loop-edge l = l.out.items ≡ l.fn.out.items ++ flat_map edge_field (take l.edge-index l.edges)
