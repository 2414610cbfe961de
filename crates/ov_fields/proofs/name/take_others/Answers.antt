use Rattle.std.proofs.Common.{◌∙◌, take}
use Rattle.std.proofs.lemmas.Result.{err_from_is_err_and}
use Rattle.ov_base.specs.Names.{is_name_byte}
use Rattle.ov_fields.specs.Answers.{left_of}
use Rattle.ov_fields.specs.Reading.{byte_at, many_at}
use Rattle.ov_fields.proofs.Loops.{ends}
use Rattle.ov_fields.proofs.NameLaws.{passes_on, passed}
use Rattle.ov_fields.proofs.name.take_others.Goals as goal

pub returns-in_err-after : goal.returns-in_err-after
returns-in_err-after c =
    let p = err_from_is_err_and c.from_residual.result c.from_residual.ensures.1 in
    let i = c.loop.invariant in
    rw (p.1, p.2)
    (ends (byte_at is_name_byte) (left_of c.in_err-after.field-0.0) (take c.loop.counter c.args.bytes.now) c.args.count c.loop.counter c.loop.rest.now (many_at (byte_at is_name_byte) c.args.count c.args.bytes.now) c.loop-test.true (c.in_err-after.ensures) i.read)

pub loop-preserved : goal.loop-preserved
loop-preserved c =
    passes_on c.args.count c.loop.counter c.args.bytes.now c.loop.rest.now c.in_ok-after.field-0-0 c.in_ok-after.after.now c.loop-test.true c.in_ok-after.ensures c.loop.invariant

pub returns : goal.returns
returns c = (passed c.args.count c.loop.counter c.args.bytes.now c.loop.rest.now c.loop-test.false c.loop.auto.counter-end c.loop.invariant).0 ∙ cc
