use Rattle.std.proofs.Common.{◌≡◌, ℕ, false, length, sym, subst}
use Rattle.std.specs.Prelude.{IfNone, Option}
use Rattle.ov_base.specs.Sets.{within}
use Rattle.ov_history.specs.Lists.{everyone, set_named}
use Rattle.ov_state.proofs.Naming.{not_all_users}
use Rattle.ov_state.proofs.state.State.users_named.Goals as goal

pub returns-in_err-user-clause-none : goal.returns-in_err-user-clause-none
returns-in_err-user-clause-none g c =
    let users = c.args.self.now.catalogue.users in
    subst (λ (r : Option ℕ). IfNone r (within (set_named users c.args.names.now) (everyone (length users)) ≡ false))
    (sym c.from_residual.ensures)
    (not_all_users users c.args.names.now c.loop-name.set c.loop-name.name-index c.name-item.result c.loop-name.invariant c.name-item.is c.loop-name-test.true c.in_err-user.ensures)
