use Rattle.std.proofs.Common.{◌≡◌, ◌++◌, drop}
use Rattle.ov_base.specs.Sets.{empty}
use Rattle.ov_graph.specs.Cover.{kept}
use Rattle.ov_graph.specs.Candidates.{nodes_of}
use Rattle.ov_graph.proofs.covering.keep.Given as goal

abbrev pub invariant-loop-candidate : goal.invariant-loop-candidate
invariant-loop-candidate g l =
    let all = l.sets ++ l.before in
    l.from ++ kept all l.covered (nodes_of (drop l.candidate-index l.candidates)) ≡ kept all empty (nodes_of l.candidates)
