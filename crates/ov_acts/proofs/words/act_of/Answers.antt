use Rattle.std.proofs.Common.{◌≡◌, ◌∙◌, sym, true, inr}
use Rattle.std.specs.Prelude.{codes}
use Rattle.std.specs.Str.{bytes_eq}
use Rattle.std.proofs.lemmas.Slice.Eq.{bytes_eq-Decides}
use Rattle.ov_base.proofs.Tests.{true_of_not}
use Rattle.ov_acts.proofs.Lines.{created, other_count, three_texts}
use Rattle.ov_acts.proofs.words.act_of.Goals as goal

pub returns-in-Ok-Some-clause-found : goal.returns-in-Ok-Some-clause-found
returns-in-Ok-Some-clause-found c =
    let texts = three_texts _ _ _ _ _ _ _ c.in-len3.len_at_least c.in-len3.len_below
    c.file-item.is c.list-item.is c.path-item.is c.as_str-in-len3.ensures.value
    c.as_str-in-len3-2.ensures.value c.as_str-in-Ok-Some.ensures.value in
    let same : bytes_eq c.args.command.now (codes "create") ≡ true =
    true_of_not _ (sym c.ne.ensures ∙ c.if-ne.false) in
    created c.in-Ok-Some.act c.args.command.now _ _ _ _
    ((bytes_eq-Decides c.args.command.now (codes "create")).0 same) texts
    (rw c.in-Ok-Some.field-0-is at c.in-Ok-Some.ensures.found)

pub returns-in-len4-up-clause-none : goal.returns-in-len4-up-clause-none
returns-in-len4-up-clause-none c = λ act path is.
    other_count c.args.words.now (inr c.in-len4-up.len_at_least) act c.args.command.now path is
