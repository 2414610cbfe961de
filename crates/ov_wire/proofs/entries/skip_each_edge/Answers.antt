use Rattle.std.proofs.lemmas.Result.{err_from_is_err_and}
use Rattle.ov_fields.specs.Answers.{left_of}
use Rattle.ov_fields.specs.Reading.{many_at, rest_of}
use Rattle.ov_wire.specs.Entries.{edge_at}
use Rattle.ov_wire.proofs.EntryLaws.{skips_on, skips_not, skipped}
use Rattle.ov_wire.proofs.entries.skip_each_edge.Goals as goal

pub returns-in_err-rest : goal.returns-in_err-rest
returns-in_err-rest c =
    let p = err_from_is_err_and c.from_residual.result c.from_residual.ensures.1 in
    rw (p.1, p.2)
    (skips_not edge_at (left_of c.in_err-rest.field-0.0) c.args.count c.loop.counter c.loop.rest.now (rest_of (many_at edge_at c.args.count c.args.bytes.now)) c.loop-test.true c.in_err-rest.ensures c.loop.invariant)

pub loop-preserved : goal.loop-preserved
loop-preserved c =
    skips_on edge_at c.args.count c.loop.counter c.loop.rest.now c.in_ok-rest.rest.now (rest_of (many_at edge_at c.args.count c.args.bytes.now)) c.loop-test.true c.in_ok-rest.ensures c.loop.invariant

pub returns : goal.returns
returns c = skipped edge_at c.args.count c.loop.counter c.loop.rest.now (rest_of (many_at edge_at c.args.count c.args.bytes.now)) c.loop-test.false c.loop.invariant
