use Rattle.ov_graph.proofs.ReachLaws.{starts-Contains}
use Rattle.ov_chain.proofs.distances.measure.Goals as goal

pub distance_of-requires-clause-starts : goal.distance_of-requires-clause-starts
distance_of-requires-clause-starts g c from h =
    let sets = (g.G.Graph.contents c.args.graph.now).sets in
    c.loop-n.invariant from (starts-Contains sets c.loop-n.n from h).0 (c.requires.closed c.loop-n.n from c.if-marks-n.true h)
