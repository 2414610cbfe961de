use Rattle.std.proofs.Common.{◌∙◌, sym, arith}
use Rattle.ov_record.specs.Briefs.{plain_brief}
use Rattle.ov_record.specs.Forms.{form_of}
use Rattle.ov_record.proofs.BriefLaws.{bad_front, brief_reads, brief_within_limits, front_found, only_front}
use Rattle.ov_record.proofs.stored_reading.read_brief.Goals as goal

pub overflow_sub-result : goal.overflow_sub-result
overflow_sub-result g c =
    (front_found (form_of c.args.form) (omega arith, omega arith) c.args.bytes.now (plain_brief c.in-Ok.brief) c.in-Ok.rest.now (record { each = λ i. omega (arith, c.type_inv.bytes i) }) c.in-Ok.ensures).within

pub overflow_cast-result : goal.overflow_cast-result
overflow_cast-result g c =
    let near = (front_found (form_of c.args.form) (omega arith, omega arith) c.args.bytes.now (plain_brief c.in-Ok.brief) c.in-Ok.rest.now (record { each = λ i. omega (arith, c.type_inv.bytes i) }) c.in-Ok.ensures).near in
    omega (arith, near, c.requires)

pub overflow_sub-result-in-Err-Bad : goal.overflow_sub-result-in-Err-Bad
overflow_sub-result-in-Err-Bad g c =
    ((brief_reads (form_of c.args.form) (omega arith, omega arith)).near c.args.bytes.now c.in-Err-Bad.left (record { each = λ i. omega (arith, c.type_inv.bytes i) }) (rw c.in-Err-Bad.field-0-is at c.in-Err-Bad.ensures)).0

pub overflow_cast-result-in-Err-Bad : goal.overflow_cast-result-in-Err-Bad
overflow_cast-result-in-Err-Bad g c =
    let near = ((brief_reads (form_of c.args.form) (omega arith, omega arith)).near c.args.bytes.now c.in-Err-Bad.left (record { each = λ i. omega (arith, c.type_inv.bytes i) }) (rw c.in-Err-Bad.field-0-is at c.in-Err-Bad.ensures)).1 in
    omega (arith, near, c.requires)

pub returns-in-Ok-clause-found : goal.returns-in-Ok-clause-found
returns-in-Ok-clause-found g c =
    let front = front_found (form_of c.args.form) (omega arith, omega arith) c.args.bytes.now (plain_brief c.in-Ok.brief) c.in-Ok.rest.now (record { each = λ i. omega (arith, c.type_inv.bytes i) }) c.in-Ok.ensures in
    (front.has_form, front.spelled)

pub returns-in-Ok-clause-limits : goal.returns-in-Ok-clause-limits
returns-in-Ok-clause-limits g c =
    brief_within_limits (form_of c.args.form) (plain_brief c.in-Ok.brief)
    (front_found (form_of c.args.form) (omega arith, omega arith) c.args.bytes.now (plain_brief c.in-Ok.brief) c.in-Ok.rest.now (record { each = λ i. omega (arith, c.type_inv.bytes i) }) c.in-Ok.ensures).has_form

pub returns-in-Ok-clause-only : goal.returns-in-Ok-clause-only
returns-in-Ok-clause-only g c = λ b rest fits is.
    sym (only_front (form_of c.args.form) (omega arith, omega arith) c.args.bytes.now b rest fits is)
    ∙ (front_found (form_of c.args.form) (omega arith, omega arith) c.args.bytes.now (plain_brief c.in-Ok.brief) c.in-Ok.rest.now (record { each = λ i. omega (arith, c.type_inv.bytes i) }) c.in-Ok.ensures).read

pub returns-in-Err-Bad-clause-only : goal.returns-in-Err-Bad-clause-only
returns-in-Err-Bad-clause-only g c = λ b rest fits is.
    let bad = rw c.in-Err-Bad.field-0-is at c.in-Err-Bad.ensures in
    let none = sym (only_front (form_of c.args.form) (omega arith, omega arith) c.args.bytes.now b rest fits is)
    ∙ bad_front (form_of c.args.form) c.args.bytes.now c.in-Err-Bad.left bad in cc
