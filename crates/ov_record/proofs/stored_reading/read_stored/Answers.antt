use Rattle.std.proofs.Common.{◌∙◌, ap, sym, List, ℕ, arith}
use Rattle.ov_fields.specs.Reading.{all_of}
use Rattle.ov_fields.proofs.WholeLaws.{all_takes, all_again, all_near}
use Rattle.ov_record.specs.Forms.{form_of}
use Rattle.ov_record.specs.Reading.{stored_at}
use Rattle.ov_record.specs.Stored.{plain_stored}
use Rattle.ov_record.proofs.BriefLaws.{stored_reads, brief_within_limits}
use Rattle.ov_record.proofs.stored_reading.read_stored.Goals as goal

pub overflow_sub-result : goal.overflow_sub-result
overflow_sub-result g c =
    (all_near (stored_reads (form_of c.args.form) (omega arith, omega arith) c.args.count) c.args.bytes.now c.in-Err-Bad.left (record { each = λ i. omega (arith, c.type_inv.bytes i) }) (rw c.in-Err-Bad.field-0-is at c.in-Err-Bad.ensures)).0

pub overflow_cast-result : goal.overflow_cast-result
overflow_cast-result g c =
    let near = (all_near (stored_reads (form_of c.args.form) (omega arith, omega arith) c.args.count) c.args.bytes.now c.in-Err-Bad.left (record { each = λ i. omega (arith, c.type_inv.bytes i) }) (rw c.in-Err-Bad.field-0-is at c.in-Err-Bad.ensures)).1 in
    omega (arith, near, c.requires.width, c.requires.files)

pub returns-in-Ok-clause-found : goal.returns-in-Ok-clause-found
returns-in-Ok-clause-found g c =
    all_takes (stored_reads (form_of c.args.form) (omega arith, omega arith) c.args.count) c.args.bytes.now (plain_stored c.in-Ok.stored) (record { each = λ i. omega (arith, c.type_inv.bytes i) }) c.in-Ok.ensures

pub returns-in-Ok-clause-only : goal.returns-in-Ok-clause-only
returns-in-Ok-clause-only g c = λ s fits e.
    sym (all_again (stored_reads (form_of c.args.form) (omega arith, omega arith) c.args.count) s fits) ∙ ap (λ (bytes : List ℕ). all_of (stored_at (form_of c.args.form) c.args.count bytes)) (sym e) ∙ c.in-Ok.ensures

pub returns-in-Err-Bad-clause-only : goal.returns-in-Err-Bad-clause-only
returns-in-Err-Bad-clause-only g c = λ s fits e.
    let none = sym (all_again (stored_reads (form_of c.args.form) (omega arith, omega arith) c.args.count) s fits) ∙ ap (λ (bytes : List ℕ). all_of (stored_at (form_of c.args.form) c.args.count bytes)) (sym e) ∙ (rw c.in-Err-Bad.field-0-is at c.in-Err-Bad.ensures) in cc

pub returns-in-Ok-clause-limits : goal.returns-in-Ok-clause-limits
returns-in-Ok-clause-limits g c =
    brief_within_limits (form_of c.args.form) (plain_stored c.in-Ok.stored).update
    (all_takes (stored_reads (form_of c.args.form) (omega arith, omega arith) c.args.count) c.args.bytes.now (plain_stored c.in-Ok.stored) (record { each = λ i. omega (arith, c.type_inv.bytes i) }) c.in-Ok.ensures).0.0
