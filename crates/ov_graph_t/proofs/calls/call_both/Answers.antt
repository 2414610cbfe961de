use Rattle.ov_graph_t.proofs.CallLaws.{all_called}
use Rattle.ov_graph_t.proofs.calls.call_both.Goals as goal

pub returns-clause-same : goal.returns-clause-same
returns-clause-same g c = all_called _ _ _ _ _ c.requires.same c.in_ok-call_each.ensures c.in_ok-call_each-2.ensures
