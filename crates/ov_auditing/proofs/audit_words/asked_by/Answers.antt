use Rattle.std.proofs.Common.{◌≡◌, ◌∙◌, sym, true}
use Rattle.std.specs.Prelude.{codes}
use Rattle.std.specs.Str.{bytes_eq}
use Rattle.std.proofs.lemmas.Slice.Eq.{bytes_eq-Decides}
use Rattle.ov_base.proofs.Tests.{true_of_not}
use Rattle.ov_auditing.proofs.WordTexts.{found_by, none_by}
use Rattle.ov_auditing.proofs.audit_words.asked_by.Goals as goal

pub returns-clause-found : goal.returns-clause-found
returns-clause-found c =
    let same : bytes_eq c.args.audit.now (codes "audit") ≡ true =
    true_of_not _ (sym c.ne.ensures ∙ c.if-ne.false) in
    let first = (bytes_eq-Decides c.args.audit.now (codes "audit")).0 same in
    found_by c.asked_of.result _ _ (λ asked is. (first, is.0, is.1)) c.asked_of.ensures.found

pub returns-clause-none : goal.returns-clause-none
returns-clause-none c =
    none_by c.asked_of.result _ _ (λ none names first. none names) c.asked_of.ensures.none
