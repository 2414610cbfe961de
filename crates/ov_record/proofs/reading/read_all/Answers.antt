use Rattle.std.proofs.Common.{arith, rules}
use Rattle.std.proofs.lemmas.Result.{err_from_is_err_and}
use Rattle.ov_record.specs.Briefs.{plain_brief}
use Rattle.ov_record.specs.Forms.{form_of}
use Rattle.ov_record.proofs.ByBrief.{is_parted, more_read, no_front, no_text, whole_read}
use Rattle.ov_record.proofs.reading.read_all.Goals as goal

pub returns-in_err-brief-clause-update : goal.returns-in_err-brief-clause-update
returns-in_err-brief-clause-update g c =
    let p = err_from_is_err_and c.from_residual.result c.from_residual.ensures.1 in
    rw (p.1, p.2) (no_front (form_of c.args.form) c.args.bytes.now c.in_err-brief.field-0.0 c.in_err-brief.ensures)

pub returns-in_err-rest-clause-update : goal.returns-in_err-rest-clause-update
returns-in_err-rest-clause-update g c =
    let p = err_from_is_err_and c.from_residual-in_err-rest.result c.from_residual-in_err-rest.ensures.1 in
    rw (p.1, p.2) (no_text (form_of c.args.form) c.args.bytes.now (plain_brief c.in_ok-brief.brief) c.in_ok-brief.text.now c.text_size.result c.in_err-rest.field-0.0 c.in_ok-brief.ensures c.text_size.ensures c.in_err-rest.ensures.read)

pub returns-then-not-is_empty-clause-update : goal.returns-then-not-is_empty-clause-update
returns-then-not-is_empty-clause-update g c =
    more_read (form_of c.args.form) c.args.bytes.now (plain_brief c.in_ok-brief.brief) c.in_ok-brief.text.now c.text_size.result c.in_ok-rest.field-0-0.now c.in_ok-rest.rest.now c.in_ok-brief.ensures c.text_size.ensures c.in_ok-rest.ensures.read (search rules)

pub overflow_sub-result : goal.overflow_sub-result
overflow_sub-result g c =
    (is_parted (form_of c.args.form) (omega arith, omega arith) c.args.bytes.now (plain_brief c.in_ok-brief.brief) c.in_ok-brief.text.now (record { each = λ i. omega (arith, c.type_inv.bytes i) }) c.in_ok-brief.ensures).within

pub returns-clause-update : goal.returns-clause-update
returns-clause-update g c =
    whole_read (form_of c.args.form) (omega arith, omega arith) c.args.bytes.now (plain_brief c.in_ok-brief.brief) c.in_ok-brief.text.now c.text_size.result c.in_ok-rest.field-0-0.now c.in_ok-rest.rest.now (record { each = λ i. omega (arith, c.type_inv.bytes i) }) c.in_ok-brief.ensures c.text_size.ensures c.in_ok-rest.ensures.read (search rules)
