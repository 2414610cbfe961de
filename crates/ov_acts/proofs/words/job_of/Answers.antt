use Rattle.std.proofs.Common.{◌≡◌, ◌∙◌, sym, true, arith}
use Rattle.std.specs.Prelude.{codes}
use Rattle.std.specs.Str.{bytes_eq}
use Rattle.std.proofs.lemmas.Slice.Eq.{bytes_eq-Decides}
use Rattle.ov_base.proofs.Tests.{true_of_not}
use Rattle.ov_acts.proofs.Lines.{checks, none_short, two_texts}
use Rattle.ov_acts.proofs.words.job_of.Goals as goal

pub returns-in-empty-clause-none : goal.returns-in-empty-clause-none
returns-in-empty-clause-none c = none_short c.args.words.now (omega (arith, c.in-empty.len_below))

pub returns-in_ok-job-in-len2-clause-found : goal.returns-in_ok-job-in-len2-clause-found
returns-in_ok-job-in-len2-clause-found c =
    let texts = two_texts _ _ _ _ _ c.in-len2.len_at_least c.in-len2.len_below
    c.check-item.is c.keys-item.is c.as_str.ensures.value c.as_str-in-len2.ensures.value in
    let same : bytes_eq c.as_str.result.now (codes "check") ≡ true =
    true_of_not _ (sym c.ne.ensures ∙ c.if-ne.false) in
    checks c.in_ok-job-in-len2.job _ _ _ texts
    ((bytes_eq-Decides c.as_str.result.now (codes "check")).0 same) c.in_ok-job-in-len2.ensures
