use Rattle.std.proofs.Common.{◌≡◌, map, take}
use Rattle.ov_base.specs.Sets.{meets}
use Rattle.ov_audit.proofs.marks.meeting.Given as goal

abbrev pub invariant-loop-node : goal.invariant-loop-node
invariant-loop-node g l =
    l.marks.items ≡ map (meets l.users) (take l.node (g.G.Graph.contents l.graph).sets)
