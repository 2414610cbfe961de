use Rattle.std.proofs.Common.{drop, arith}
use Rattle.ov_fields.proofs.WholeLaws.{all_near, all_takes}
use Rattle.ov_record.specs.Briefs.{plain_brief, with_text}
use Rattle.ov_record.specs.Forms.{form_of}
use Rattle.ov_record.proofs.UpdateLaws.{update_reads}
use Rattle.ov_record.proofs.reading.read_head.Goals as goal

pub overflow_sub-result : goal.overflow_sub-result
overflow_sub-result g c =
    (all_near (update_reads (form_of c.args.form) (omega arith, omega arith)) c.args.bytes.now c.in-Err-Bad.left (record { each = λ i. omega (arith, c.type_inv.bytes i) }) (rw c.in-Err-Bad.field-0-is at c.in-Err-Bad.ensures.update)).0

pub overflow_cast-result : goal.overflow_cast-result
overflow_cast-result g c =
    let near = (all_near (update_reads (form_of c.args.form) (omega arith, omega arith)) c.args.bytes.now c.in-Err-Bad.left (record { each = λ i. omega (arith, c.type_inv.bytes i) }) (rw c.in-Err-Bad.field-0-is at c.in-Err-Bad.ensures.update)).1 in
    omega (arith, near, c.requires.places)

pub returns-in-Ok-clause-found : goal.returns-in-Ok-clause-found
returns-in-Ok-clause-found g c =
    all_takes (update_reads (form_of c.args.form) (omega arith, omega arith)) c.args.bytes.now (with_text (plain_brief c.in-Ok.head.0) (drop c.in-Ok.head.1 c.args.bytes.now)) (record { each = λ i. omega (arith, c.type_inv.bytes i) }) c.in-Ok.ensures.update
