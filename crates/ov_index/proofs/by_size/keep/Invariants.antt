use Rattle.std.proofs.Common.{◌≡◌, ◌++◌}
use Rattle.ov_graph.specs.Cover.{kept, cover_of}
use Rattle.ov_index.proofs.KeepSteps.{ahead}
use Rattle.ov_index.proofs.by_size.keep.Given as goal

abbrev pub invariant-loop-node : goal.invariant-loop-node
invariant-loop-node g l =
    let all = l.sets ++ l.before in
    l.from ++ kept all l.covered (ahead all l.set l.order l.node-index) ≡ cover_of all l.set
