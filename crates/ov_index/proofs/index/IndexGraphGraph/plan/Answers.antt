use Rattle.std.proofs.Common.{◌++◌, ◌∙◌, arith, ap, length}
use Rattle.ov_graph.proofs.CoverLaws.{cover-few, cover-none}
use Rattle.ov_index.proofs.index.IndexGraphGraph.plan.Goals as goal

pub returns-in_ok-cover-in-None-2-clause-few : goal.returns-in_ok-cover-in-None-2-clause-few
returns-in_ok-cover-in-None-2-clause-few g c =
    omega (arith, ap length c.in_ok-cover-in-None-2.ensures, cover-few (c.deref-in-None-2.result.now ++ c.args.before.now) c.args.set.now)

pub returns-in_ok-cover-in-None-2-clause-none : goal.returns-in_ok-cover-in-None-2-clause-none
returns-in_ok-cover-in-None-2-clause-none g c small = c.in_ok-cover-in-None-2.ensures ∙ cover-none _ c.args.set.now small
