use Rattle.std.proofs.Common.{sym, ◌∙◌}
use Rattle.ov_index.proofs.NodeLaws.{node_of_first, node_of_later, node_of_none}
use Rattle.ov_index.proofs.by_set.find_in_both.Goals as goal

pub returns-in-Some-clause-node : goal.returns-in-Some-clause-node
returns-in-Some-clause-node g c = sym (node_of_first c.args.sets.now c.args.before.now c.args.set.now c.in-Some.node (sym c.in-Some.ensures))

pub returns-in_err-later-in-None-clause-node : goal.returns-in_err-later-in-None-clause-node
returns-in_err-later-in-None-clause-node g c = c.from_residual.ensures ∙ sym (node_of_none c.args.sets.now c.args.before.now c.args.set.now (sym c.in-None.ensures) (sym c.in_err-later-in-None.ensures.node))

pub returns-in_ok-later-in-None-clause-node : goal.returns-in_ok-later-in-None-clause-node
returns-in_ok-later-in-None-clause-node g c = sym (node_of_later c.args.sets.now c.args.before.now c.args.set.now c.in_ok-later-in-None.later (sym c.in-None.ensures) (sym c.in_ok-later-in-None.ensures.node))
