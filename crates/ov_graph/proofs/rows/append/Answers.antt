use Rattle.std.proofs.Common.{sym, arith, ap, ◌∙◌, ◌++◌, get_or, append_assoc, [], ◌∷◌}
use Rattle.ov_graph.proofs.GraphLaws.{joined-more}
use Rattle.ov_graph.proofs.rows.append.Goals as goal

pub loop-n-preserved : goal.loop-n-preserved
loop-n-preserved c = record {
  items =
      let e = joined-more c.args.from.now c.args.tokens.now c.loop-n.n (record { bytes = [] }) (omega arith) (omega arith) in
      c.push_within.ensures.items ∙ ap (λ es. es ++ record { from = get_or c.args.from.now c.loop-n.n 0; token = get_or c.args.tokens.now c.loop-n.n (record { bytes = [] }) } ∷ []) c.loop-n.invariant.items
      ∙ append_assoc c.args.edges.now.items _ _ ∙ ap (λ r. c.args.edges.now.items ++ r) (sym e);
  len = omega arith;
  capacity = omega arith;
}
