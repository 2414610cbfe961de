use Rattle.ov_graph.specs.Contents.{Contents}
use Rattle.ov_graph_t.proofs.CallLaws.{call_step}
use Rattle.ov_graph_t.proofs.calls.call_each.Goals as goal

pub loop-each-preserved : goal.loop-each-preserved
loop-each-preserved g c =
    let old : Contents = g.G.Graph.contents c.loop-each.graph in
    let next : Contents = g.G.Graph.contents c.make.new.graph in
    λ new rest. c.loop-each.invariant new (call_step c.args.calls.now c.loop-each.each-index c.each-item.result old next new c.loop-each-test.true c.each-item.is c.in_ok-make.ensures rest)
