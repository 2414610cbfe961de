use Rattle.std.proofs.Common.{◌≡◌, take}
use Rattle.ov_state.specs.Changes.{edges_in}
use Rattle.ov_state.proofs.room.edge_count.Given as goal

abbrev pub invariant-loop-one : goal.invariant-loop-one
invariant-loop-one g l = l.count ≡ edges_in (take l.one-index l.new)
