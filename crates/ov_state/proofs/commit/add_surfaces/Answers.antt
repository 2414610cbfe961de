use Rattle.std.proofs.Common.{arith}
use Rattle.std.specs.Vec.Iter.{into_iter_items, into_iter_len}
use Rattle.ov_state.proofs.Adding.{added_rest}
use Rattle.ov_state.proofs.commit.add_surfaces.Goals as goal

pub loop-one-preserved : goal.loop-one-preserved
loop-one-preserved g c =
    added_rest (g.S.Graph.contents c.args.graph.now) (g.S.Graph.contents c.loop-one.graph) (g.S.Graph.contents c.add.new.self) _
    (into_iter_items c.loop-one.one-iterator) c.in-Some.one (into_iter_items c.next.new.self) (into_iter_len c.loop-one.one-iterator)
    (into_iter_len c.next.new.self) c.in-Some.ensures.steps.0 c.loop-one.invariant (let gone = c.in-Some.ensures.steps.1 in omega arith) c.add.ensures.sets c.add.ensures.edges c.add.ensures.room
