use Rattle.std.proofs.lemmas.Result.{err_from_is_err_and}
use Rattle.ov_fields.specs.Answers.{left_of}
use Rattle.ov_fields.specs.Reading.{many_at}
use Rattle.ov_wire.specs.Entries.{node_at}
use Rattle.ov_fields.proofs.Loops.{goes_on, ends, is_done}
use Rattle.ov_wire.proofs.answer_bodies.take_each_node.Goals as goal

pub returns-in_err-node : goal.returns-in_err-node
returns-in_err-node c =
    let p = err_from_is_err_and c.from_residual.result c.from_residual.ensures.1 in
    rw (p.1, p.2)
    (ends node_at (left_of c.in_err-node.field-0.0) c.loop.nodes c.args.count c.loop.counter c.loop.rest.now (many_at node_at c.args.count c.args.bytes.now) c.loop-test.true c.in_err-node.ensures c.loop.invariant)

pub loop-preserved : goal.loop-preserved
loop-preserved c =
    rw c.in_ok-push.ensures.ok
    (goes_on node_at c.loop.nodes c.args.count c.loop.counter c.loop.rest.now c.in_ok-node.node c.in_ok-node.after.now (many_at node_at c.args.count c.args.bytes.now) c.loop-test.true c.in_ok-node.ensures c.loop.invariant)

pub returns : goal.returns
returns c = is_done node_at c.loop.nodes c.args.count c.loop.counter c.loop.rest.now (many_at node_at c.args.count c.args.bytes.now) c.loop-test.false c.loop.invariant
