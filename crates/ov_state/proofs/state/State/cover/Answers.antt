use Rattle.std.proofs.Common.{ℕ, sym, ◌∙◌, ap, not, subst}
use Rattle.ov_state.specs.Asking.{Plans}
use Rattle.ov_state.proofs.NewTests.{first_here, first_later}
use Rattle.ov_state.proofs.state.State.cover.Goals as goal

pub returns-then-has_file : goal.returns-then-has_file
returns-then-has_file g c =
    first_here _ _ _ (sym c.has_file.ensures.shown ∙ c.if-has_file.true)

pub returns-in_default : goal.returns-in_default
returns-in_default g c =
    first_later _ _ _ (sym c.has_file.ensures.shown ∙ c.if-has_file.false)
    ∙ first_here _ _ _ (ap not c.in_default.ensures.none)

pub returns : goal.returns
returns g c =
    let s = c.args.self.now.catalogue in
    subst (λ (list : ℕ). Plans s c.args.name.now list c.args.size c.planned.result) c.in-Some.ensures.set c.planned.ensures
