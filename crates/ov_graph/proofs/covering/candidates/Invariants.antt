use Rattle.std.proofs.Common.{◌≡◌, ◌++◌, drop}
use Rattle.ov_graph.specs.Cover.{candidates_from}
use Rattle.ov_graph.specs.Candidates.{entries}
use Rattle.ov_graph.proofs.covering.candidates.Given as goal

abbrev pub invariant-loop-node : goal.invariant-loop-node
invariant-loop-node g l =
    let all = l.sets ++ l.before in
    l.found.items ++ entries all l.set (candidates_from l.set l.node (drop l.node all)) ≡ entries all l.set (candidates_from l.set 0 all)
