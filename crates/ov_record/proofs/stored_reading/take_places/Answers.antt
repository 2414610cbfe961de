use Rattle.std.proofs.lemmas.Result.{err_from_is_err_and}
use Rattle.std.specs.Int.{w32}
use Rattle.ov_fields.specs.Answers.{left_of}
use Rattle.ov_fields.specs.Reading.{many_at, number_at}
use Rattle.ov_fields.proofs.Loops.{goes_on, ends, is_done}
use Rattle.ov_record.proofs.stored_reading.take_places.Goals as goal

pub returns-in_err-place : goal.returns-in_err-place
returns-in_err-place c =
    let p = err_from_is_err_and c.from_residual.result c.from_residual.ensures.1 in
    rw (p.1, p.2)
    (ends (number_at w32) (left_of c.in_err-place.field-0.0) c.loop.places c.args.count c.loop.counter c.loop.rest.now (many_at (number_at w32) c.args.count c.args.bytes.now) c.loop-test.true c.in_err-place.ensures c.loop.invariant)

pub loop-preserved : goal.loop-preserved
loop-preserved c =
    rw c.in_ok-push.ensures.ok
    (goes_on (number_at w32) c.loop.places c.args.count c.loop.counter c.loop.rest.now c.in_ok-place.place c.in_ok-place.after.now (many_at (number_at w32) c.args.count c.args.bytes.now) c.loop-test.true c.in_ok-place.ensures c.loop.invariant)

pub returns : goal.returns
returns c = is_done (number_at w32) c.loop.places c.args.count c.loop.counter c.loop.rest.now (many_at (number_at w32) c.args.count c.args.bytes.now) c.loop-test.false c.loop.invariant
