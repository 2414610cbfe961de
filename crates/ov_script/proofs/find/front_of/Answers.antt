use Rattle.std.proofs.Common.{ap, sym, ◌∙◌}
use Rattle.ov_script.specs.declared.front.Front.TheVariants.{Start}
use Rattle.ov_script.specs.LineEnds.{may_go_on}
use Rattle.ov_script.specs.LineFronts.{run}
use Rattle.ov_script.proofs.Fronts.{finds_long, finds_never}
use Rattle.ov_script.proofs.find.front_of.Goals as goal

pub returns-then-may_go_on-clause-found : goal.returns-then-may_go_on-clause-found
returns-then-may_go_on-clause-found c = λ left. finds_long _ _ left c.requires.past c.requires.no_lf
    (ap (λ l. may_go_on (run Start l) c.args.room) (sym c.split_at.ensures.front) ∙ sym (ap (λ f. may_go_on f c.args.room) c.run.ensures) ∙ sym c.may_go_on.ensures ∙ c.if-may_go_on.true)

pub returns-else-may_go_on-clause-found : goal.returns-else-may_go_on-clause-found
returns-else-may_go_on-clause-found c = λ left. finds_never _ _ left c.requires.past c.requires.no_lf
    (ap (λ l. may_go_on (run Start l) c.args.room) (sym c.split_at.ensures.front) ∙ sym (ap (λ f. may_go_on f c.args.room) c.run.ensures) ∙ sym c.may_go_on.ensures ∙ c.if-may_go_on.false)
