use Rattle.std.proofs.Common.{◌*◌, ◌∙◌, ap, not, sym}
use Rattle.ov_state.proofs.NewTests.{first_here, first_later}
use Rattle.ov_state.proofs.Removing.{refusal_remove}
use Rattle.ov_state.proofs.state.State.refusal_remove.Goals as goal

pub returns-then-not-is_file-clause-why : goal.returns-then-not-is_file-clause-why
returns-then-not-is_file-clause-why g c =
    sym (refusal_remove (64 * g.row.W) c.args.self.now.catalogue c.args.file c.known.ensures
    ∙ first_here _ _ _ (ap not (sym c.is_file.ensures ∙ c.if-not-is_file.true)))

pub returns-then-is_spent-clause-why : goal.returns-then-is_spent-clause-why
returns-then-is_spent-clause-why g c =
    sym (refusal_remove (64 * g.row.W) c.args.self.now.catalogue c.args.file c.known.ensures
    ∙ first_later _ _ _ (ap not (sym c.is_file.ensures ∙ c.if-not-is_file.false))
    ∙ first_here _ _ _ (sym c.is_spent.ensures ∙ c.if-is_spent.true))

pub returns-else-is_spent-clause-why : goal.returns-else-is_spent-clause-why
returns-else-is_spent-clause-why g c =
    sym (refusal_remove (64 * g.row.W) c.args.self.now.catalogue c.args.file c.known.ensures
    ∙ first_later _ _ _ (ap not (sym c.is_file.ensures ∙ c.if-not-is_file.false))
    ∙ first_later _ _ _ (sym c.is_spent.ensures ∙ c.if-is_spent.false))

pub returns-else-is_spent-clause-there : goal.returns-else-is_spent-clause-there
returns-else-is_spent-clause-there g c = sym c.is_file.ensures ∙ c.if-not-is_file.false
