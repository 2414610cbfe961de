use Rattle.std.proofs.Common.{arith, ◌∙◌, sym}
use Rattle.ov_graph.proofs.CandidateLaws.{empty_is_none, outside_is_none}
use Rattle.ov_graph.proofs.covering.is_candidate.Goals as goal
use Rattle.ov_graph.proofs.covering.is_candidate.Goals.{then-count-gt0, else-count-gt0}

pub returns-else-within : goal.returns-else-within
returns-else-within g c = elim c.if-count-gt0.branch [
  | then-count-gt0 w ↦ c.if-within.false ∙ sym (outside_is_none c.args.set.now c.args.earlier.now (sym w.within.ensures ∙ sym w.value-is ∙ c.if-within.false))
  | else-count-gt0 w ↦ c.if-within.false ∙ sym (empty_is_none c.args.set.now c.args.earlier.now (omega arith))
]
