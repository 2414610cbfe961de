use Rattle.std.proofs.Common.{◌≡◌, length, subst, ap, ◌∙◌}
use Rattle.ov_base.specs.Sets.{within}
use Rattle.ov_history.specs.Lists.{everyone}
use Rattle.ov_state.proofs.NewTests.{are_users}
use Rattle.ov_state.proofs.state.State.has_all.Goals as goal

pub returns : goal.returns
returns g c =
    let many : c.len.result ≡ length c.args.self.now.catalogue.users = c.len.ensures.len ∙ ap (λ v. length v.catalogue.users) c.self.view_is in
    subst (λ count. c.is_below.result ≡ within c.args.set.now (everyone count)) many
    (are_users c.is_below.result c.args.set.now c.len.result c.is_below.ensures.below c.is_below.ensures.past)
