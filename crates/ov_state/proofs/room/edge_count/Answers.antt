use Rattle.std.proofs.Common.{rules, arith, ◌≡◌, length}
use Rattle.ov_state.proofs.Adding.{edges_in-take}
use Rattle.ov_state.proofs.room.edge_count.Goals as goal

pub loop-one-preserved : goal.loop-one-preserved
loop-one-preserved g c =
    let more = edges_in-take c.args.new.now c.loop-one.one-index c.one-item.result c.one-item.is c.loop-one-test.true in
    let was = c.loop-one.invariant in
    let one : c.in_ok-edges.edges ≡ length c.one-item.result.tokens = search rules in
    let sum = c.in_ok-count.ensures.1 in
    omega arith
