use Rattle.std.proofs.lemmas.Result.{err_from_is_err_and}
use Rattle.ov_fields.specs.Answers.{left_of}
use Rattle.ov_fields.specs.Reading.{many_at}
use Rattle.ov_fields.proofs.Loops.{goes_on, ends, is_done}
use Rattle.ov_wire.specs.Chains.{step_at, kinds_of}
use Rattle.ov_wire.proofs.chains.take_each_step.Goals as goal

pub returns-in_err-step : goal.returns-in_err-step
returns-in_err-step c =
    let p = err_from_is_err_and c.from_residual.result c.from_residual.ensures.1 in
    let r = step_at (kinds_of c.args.side c.args.count) in
    rw (p.1, p.2)
    (ends r (left_of c.in_err-step.field-0.0) c.loop.steps c.args.count c.loop.counter c.loop.rest.now (many_at r c.args.count c.args.bytes.now) c.loop-test.true c.in_err-step.ensures c.loop.invariant)

pub loop-preserved : goal.loop-preserved
loop-preserved c =
    let r = step_at (kinds_of c.args.side c.args.count) in
    rw c.in_ok-push.ensures.ok
    (goes_on r c.loop.steps c.args.count c.loop.counter c.loop.rest.now c.in_ok-step.step c.in_ok-step.after.now (many_at r c.args.count c.args.bytes.now) c.loop-test.true c.in_ok-step.ensures c.loop.invariant)

pub returns : goal.returns
returns c =
    let r = step_at (kinds_of c.args.side c.args.count) in
    is_done r c.loop.steps c.args.count c.loop.counter c.loop.rest.now (many_at r c.args.count c.args.bytes.now) c.loop-test.false c.loop.invariant
