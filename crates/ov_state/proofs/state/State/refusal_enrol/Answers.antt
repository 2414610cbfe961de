use Rattle.std.proofs.Common.{◌*◌, sym, ◌∙◌}
use Rattle.ov_state.proofs.Enrolling.{refusal_enrol}
use Rattle.ov_state.proofs.NewTests.{first_here, first_later}
use Rattle.ov_state.proofs.state.State.refusal_enrol.Goals as goal

pub returns-then-has_user : goal.returns-then-has_user
returns-then-has_user g c =
    sym (refusal_enrol (64 * g.row.W) c.args.self.now.catalogue c.args.name.now c.known.ensures
    ∙ first_here _ _ _ (sym c.has_user.ensures ∙ c.if-has_user.true))

pub returns-then-is_full_of_users : goal.returns-then-is_full_of_users
returns-then-is_full_of_users g c =
    sym (refusal_enrol (64 * g.row.W) c.args.self.now.catalogue c.args.name.now c.known.ensures
    ∙ first_later _ _ _ (sym c.has_user.ensures ∙ c.if-has_user.false)
    ∙ first_here _ _ _ (sym c.is_full_of_users.ensures ∙ c.if-is_full_of_users.true))

pub returns-then-is_full_of_nodes : goal.returns-then-is_full_of_nodes
returns-then-is_full_of_nodes g c =
    sym (refusal_enrol (64 * g.row.W) c.args.self.now.catalogue c.args.name.now c.known.ensures
    ∙ first_later _ _ _ (sym c.has_user.ensures ∙ c.if-has_user.false)
    ∙ first_later _ _ _ (sym c.is_full_of_users.ensures ∙ c.if-is_full_of_users.false)
    ∙ first_here _ _ _ (sym c.is_full_of_nodes.ensures ∙ c.if-is_full_of_nodes.true))

pub returns-then-is_spent : goal.returns-then-is_spent
returns-then-is_spent g c =
    sym (refusal_enrol (64 * g.row.W) c.args.self.now.catalogue c.args.name.now c.known.ensures
    ∙ first_later _ _ _ (sym c.has_user.ensures ∙ c.if-has_user.false)
    ∙ first_later _ _ _ (sym c.is_full_of_users.ensures ∙ c.if-is_full_of_users.false)
    ∙ first_later _ _ _ (sym c.is_full_of_nodes.ensures ∙ c.if-is_full_of_nodes.false)
    ∙ first_here _ _ _ (sym c.is_spent.ensures ∙ c.if-is_spent.true))

pub returns-else-is_spent : goal.returns-else-is_spent
returns-else-is_spent g c =
    sym (refusal_enrol (64 * g.row.W) c.args.self.now.catalogue c.args.name.now c.known.ensures
    ∙ first_later _ _ _ (sym c.has_user.ensures ∙ c.if-has_user.false)
    ∙ first_later _ _ _ (sym c.is_full_of_users.ensures ∙ c.if-is_full_of_users.false)
    ∙ first_later _ _ _ (sym c.is_full_of_nodes.ensures ∙ c.if-is_full_of_nodes.false)
    ∙ first_later _ _ _ (sym c.is_spent.ensures ∙ c.if-is_spent.false))
