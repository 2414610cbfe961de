use Rattle.std.proofs.Common.{List, ℕ, take, sym, ◌∙◌, ap, arith}
use Rattle.std.specs.Int.{w32, from_be_bytes}
use Rattle.std.proofs.lemmas.Bool.{and_parts}
use Rattle.ov_journal.proofs.Heading.{begins_in, is_none, is_one}
use Rattle.ov_journal.proofs.scan.next_of.Goals as goal

pub returns-then-is_step-clause-next : goal.returns-then-is_step-clause-next
returns-then-is_step-clause-next c bytes long front =
    let field = c.array4.ensures ∙ c.split_at-2.ensures.front ∙ ap (λ (l : List ℕ). take 4 l) c.split_at.ensures.back in
    let count = c.from_be_bytes-count.ensures ∙ ap (λ (l : List ℕ). from_be_bytes w32 l) field in
    let record_is = begins_in c.args.front.now bytes c.from_be_bytes-count.result front c.if-front-ne1.false count c.if-count-lt1.false c.if-count-gt-MAX_RECORD_BYTES.false (omega (arith, c.if-left-from.false, c.from.ensures, long)) in
    is_one c.args.is_due c.args.front.now bytes c.from_be_bytes-count.result front record_is (sym c.is_step.ensures ∙ c.if-is_step.true)

pub returns-then-is_step-clause-inside : goal.returns-then-is_step-clause-inside
returns-then-is_step-clause-inside c =
    let parts = and_parts _ _ (sym c.is_step.ensures ∙ c.if-is_step.true) in
    (parts.0, omega (arith, c.if-left-from.false, c.from.ensures, c.if-count-lt1.false))

pub returns-clause-next : goal.returns-clause-next
returns-clause-next c bytes long front =
    let field = c.array4.ensures ∙ c.split_at-2.ensures.front ∙ ap (λ (l : List ℕ). take 4 l) c.split_at.ensures.back in
    let count = c.from_be_bytes-count.ensures ∙ ap (λ (l : List ℕ). from_be_bytes w32 l) field in
    let record_is = begins_in c.args.front.now bytes c.from_be_bytes-count.result front c.if-front-ne1.false count c.if-count-lt1.false c.if-count-gt-MAX_RECORD_BYTES.false (omega (arith, c.if-left-from.false, c.from.ensures, long)) in
    is_none c.args.is_due c.args.front.now bytes c.from_be_bytes-count.result front record_is (sym c.is_step.ensures ∙ c.if-is_step.false)
