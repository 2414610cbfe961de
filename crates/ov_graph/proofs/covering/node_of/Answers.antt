use Rattle.std.proofs.Common.{arith, sym, ◌∙◌, eqb-true}
use Rattle.std.proofs.lemmas.List.{length-append}
use Rattle.ov_graph.proofs.ListLaws.{first_is, none_is}
use Rattle.ov_graph.proofs.covering.node_of.Goals as goal

pub returns-then-eq-clause-node : goal.returns-then-eq-clause-node
returns-then-eq-clause-node g c =
    let all = length-append c.args.sets.now c.args.before.now in
    let same = eqb-true c.set_at.result.now c.args.set.now (sym c.eq.ensures ∙ c.if-eq.true) in
    sym (first_is _ c.args.set.now c.loop-node.node (omega arith) (sym c.set_at.ensures ∙ same) c.loop-node.invariant)

pub returns-clause-node : goal.returns-clause-node
returns-clause-node g c =
    let all = length-append c.args.sets.now c.args.before.now in
    sym (none_is _ c.args.set.now (λ k h. c.loop-node.invariant k (omega arith)))
