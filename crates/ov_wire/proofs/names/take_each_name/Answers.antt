use Rattle.std.proofs.Common.{[], sym, ◌∙◌}
use Rattle.std.proofs.lemmas.Result.{err_from_is_err_and}
use Rattle.ov_fields.specs.Answers.{left_of}
use Rattle.ov_wire.specs.RequestReading.{new_names_at}
use Rattle.ov_wire.proofs.NamesLaws.{goes_on, ends, ends_twice, is_done, was_appended}
use Rattle.ov_base.proofs.Tests.{false_of_not, true_of_not}
use Rattle.ov_wire.proofs.names.take_each_name.Goals as goal

pub returns-in_err-name : goal.returns-in_err-name
returns-in_err-name c =
    let p = err_from_is_err_and c.from_residual.result c.from_residual.ensures.1 in
    rw (p.1, p.2)
    (ends (left_of c.in_err-name.field-0.0) c.loop.names c.args.count c.loop.counter c.loop.rest.now (new_names_at c.args.count [] c.args.bytes.now) c.loop-test.true c.in_err-name.ensures c.loop.invariant)

pub loop-preserved : goal.loop-preserved
loop-preserved c =
    let new = false_of_not _ (sym (sym c.if-not-fresh.false ∙ c.in_ok-fresh.ensures.fresh)) in
    rw (c.in_ok-fresh.ensures.ok, was_appended c.loop.names c.in_ok-name.name new)
    (goes_on c.loop.names c.args.count c.loop.counter c.loop.rest.now c.in_ok-name.name c.in_ok-name.after.now (new_names_at c.args.count [] c.args.bytes.now) c.loop-test.true c.in_ok-name.ensures new c.loop.invariant)

pub returns-then-not-fresh : goal.returns-then-not-fresh
returns-then-not-fresh c =
    ends_twice c.loop.names c.args.count c.loop.counter c.loop.rest.now c.in_ok-name.name c.in_ok-name.after.now (new_names_at c.args.count [] c.args.bytes.now) c.loop-test.true c.in_ok-name.ensures
    (true_of_not _ (sym (sym c.if-not-fresh.true ∙ c.in_ok-fresh.ensures.fresh))) c.loop.invariant

pub returns : goal.returns
returns c = is_done c.loop.names c.args.count c.loop.counter c.loop.rest.now (new_names_at c.args.count [] c.args.bytes.now) c.loop-test.false c.loop.invariant
