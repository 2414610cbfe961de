use Rattle.std.proofs.Common.{◌≡◌, ◌∙◌, subst, sym, arith, rules}
use Rattle.std.proofs.lemmas.Result.{err_from_is_err_and}
use Rattle.ov_record.specs.Forms.{form_of}
use Rattle.ov_record.specs.Spelling.{spelling, HasForm}
use Rattle.ov_record.specs.Updates.{SealedUpdate, sealed_update}
use Rattle.ov_record.proofs.ByBrief.{not_refused, whole_again}
use Rattle.ov_record.proofs.UpdateLaws.{within_limits}
use Rattle.ov_record.proofs.reading.read_whole.Goals as goal

pub returns-in_err-brief-clause-only : goal.returns-in_err-brief-clause-only
returns-in_err-brief-clause-only g c =
    let p = err_from_is_err_and c.from_residual.result c.from_residual.ensures.1 in λ u fits is.
    rw (p.1, p.2) (not_refused (form_of c.args.form) (omega arith, omega arith) c.as_slice.result.now c.in_err-brief.field-0.0 c.in_err-brief.ensures.update u fits (c.as_slice.ensures ∙ is))

pub returns-clause-found : goal.returns-clause-found
returns-clause-found g c =
    subst (λ (u : SealedUpdate). HasForm (form_of c.args.form) u × (c.args.bytes ≡ spelling (form_of c.args.form) u)) (search rules)
    (rw c.as_slice.ensures at c.in_ok-brief.ensures.found)

pub returns-clause-limits : goal.returns-clause-limits
returns-clause-limits g c =
    within_limits (form_of c.args.form) (sealed_update c.into_update.result)
    (subst (HasForm (form_of c.args.form)) (search rules) (rw c.as_slice.ensures at c.in_ok-brief.ensures.found).0)

pub returns-clause-only : goal.returns-clause-only
returns-clause-only g c = λ u fits is.
    sym (whole_again (form_of c.args.form) (omega arith, omega arith) c.args.bytes u fits is) ∙ (search rules)
