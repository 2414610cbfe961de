use Rattle.std.proofs.Common.{◌≡◌, ◌∙◌, sym, true}
use Rattle.std.specs.Prelude.{codes}
use Rattle.std.specs.Str.{bytes_eq}
use Rattle.std.proofs.lemmas.Slice.Eq.{bytes_eq-Decides}
use Rattle.ov_base.proofs.Tests.{true_of_not}
use Rattle.ov_auditing.proofs.WordTexts.{found_by, none_by}
use Rattle.ov_auditing.proofs.audit_words.asked_with.Goals as goal

pub returns-clause-found : goal.returns-clause-found
returns-clause-found c =
    let same : bytes_eq c.args.server.now (codes "server") ≡ true =
    true_of_not _ (sym c.ne.ensures ∙ c.if-ne.false) in
    let last = (bytes_eq-Decides c.args.server.now (codes "server")).0 same in
    found_by c.asked_by.result _ _ (λ asked is. (last, is.0, is.1, is.2)) c.asked_by.ensures.found

pub returns-clause-none : goal.returns-clause-none
returns-clause-none c =
    none_by c.asked_by.result _ _ (λ none names last. none names) c.asked_by.ensures.none
