use Rattle.std.proofs.Common.{◌≤◌, List, ℕ, length, sym, ap, ◌∙◌, arith}
use Rattle.std.proofs.lemmas.Grind.{common_steps}
use Rattle.ov_base.specs.declared.limits.TheConstants.{MAX_FRAME_BYTES}
use Rattle.ov_fields.specs.Reading.{all_of, by_rows, placed}
use Rattle.ov_wire.specs.AnswerReading.{answer_rows}
use Rattle.ov_wire.proofs.AnswerLaws.{answer_takes, answer_near, answer_again, answer_counts}
use Rattle.ov_wire.proofs.LongFrames.{too_long, not_long}
use Rattle.ov_wire.proofs.answer_reading.read_answer.Goals as goal

pub overflow_sub-result : goal.overflow_sub-result
overflow_sub-result c =
    (answer_near c.args.request.now c.args.frame.now c.in-Err-Bad.left (record { each = λ i. omega (arith, c.type_inv.frame i) }) (rw c.in-Err-Bad.field-0-is at c.in-Err-Bad.ensures)).0

pub returns-then-frame-clause-only : goal.returns-then-frame-clause-only
returns-then-frame-clause-only c = λ a is few e. absurd (omega (arith, few))

pub returns-then-frame-clause-exact : goal.returns-then-frame-clause-exact
returns-then-frame-clause-exact c = too_long c.args.frame.now _ (omega arith)

pub returns-in-Ok-clause-found : goal.returns-in-Ok-clause-found
returns-in-Ok-clause-found c = answer_takes c.args.request.now c.args.frame.now c.in-Ok.answer (record { each = λ i. omega (arith, c.type_inv.frame i) }) c.in-Ok.ensures

pub returns-in-Ok-clause-only : goal.returns-in-Ok-clause-only
returns-in-Ok-clause-only c = λ a is few e.
    sym (answer_again c.args.request.now a is) ∙ ap (λ (bytes : List ℕ). all_of (by_rows (answer_rows c.args.request.now) bytes)) (sym e) ∙ c.in-Ok.ensures

pub returns-in-Ok-clause-exact : goal.returns-in-Ok-clause-exact
returns-in-Ok-clause-exact c = not_long c.args.frame.now _ (omega arith) ∙ ap (placed (length c.args.frame.now)) c.in-Ok.ensures

pub returns-in-Err-Bad-clause-only : goal.returns-in-Err-Bad-clause-only
returns-in-Err-Bad-clause-only c = λ a is few e.
    let none = sym (answer_again c.args.request.now a is) ∙ ap (λ (bytes : List ℕ). all_of (by_rows (answer_rows c.args.request.now) bytes)) (sym e) ∙ (rw c.in-Err-Bad.field-0-is at c.in-Err-Bad.ensures) in cc

pub returns-in-Err-Bad-clause-exact : goal.returns-in-Err-Bad-clause-exact
returns-in-Err-Bad-clause-exact c =
    let few : length c.args.frame.now ≤ MAX_FRAME_BYTES = omega arith in
    rw (not_long c.args.frame.now (placed (length c.args.frame.now) (all_of (by_rows (answer_rows c.args.request.now) c.args.frame.now))) few) (grind (arith, common_steps))

pub returns-in-Ok-clause-counts : goal.returns-in-Ok-clause-counts
returns-in-Ok-clause-counts c =
    answer_counts c.args.request.now c.in-Ok.answer
    (answer_takes c.args.request.now c.args.frame.now c.in-Ok.answer (record { each = λ i. omega (arith, c.type_inv.frame i) }) c.in-Ok.ensures).0
