use Rattle.std.proofs.lemmas.Result.{err_from_is_err_and}
use Rattle.ov_fields.specs.Answers.{left_of}
use Rattle.ov_fields.specs.Reading.{many_at, token_at}
use Rattle.ov_fields.proofs.Loops.{goes_on, ends, is_done}
use Rattle.ov_record.proofs.reading.take_all_tokens.Goals as goal

pub returns-in_err-token : goal.returns-in_err-token
returns-in_err-token c =
    let p = err_from_is_err_and c.from_residual.result c.from_residual.ensures.1 in
    rw (p.1, p.2)
    (ends token_at (left_of c.in_err-token.field-0.0) c.loop.tokens c.args.count c.loop.counter c.loop.rest.now (many_at token_at c.args.count c.args.bytes.now) c.loop-test.true c.in_err-token.ensures c.loop.invariant)

pub loop-preserved : goal.loop-preserved
loop-preserved c =
    rw c.in_ok-push.ensures.ok
    (goes_on token_at c.loop.tokens c.args.count c.loop.counter c.loop.rest.now c.in_ok-token.token c.in_ok-token.after.now (many_at token_at c.args.count c.args.bytes.now) c.loop-test.true c.in_ok-token.ensures c.loop.invariant)

pub returns : goal.returns
returns c = is_done token_at c.loop.tokens c.args.count c.loop.counter c.loop.rest.now (many_at token_at c.args.count c.args.bytes.now) c.loop-test.false c.loop.invariant
