use Rattle.std.proofs.Common.{◌≡◌, ap, subst, sym, ◌∙◌}
use mathlib.Core.Option.{some-injective}
use Rattle.ov_turn.specs.Passes.{SharedState}
use Rattle.ov_turn.specs.Steps.{GivesUp}
use Rattle.ov_turn.proofs.GivingUp.{gives_up}
use Rattle.ov_turn.proofs.shared.Shared.give_up.Goals as goal

pub returns : goal.returns
returns g c =
    let tells = g.A.Answerer.tells in
    let key = c.self.inside.table.shared.key in
    let last = c.close_with-closed.ensures.values.2 in
    let whole : c.args.seat.me.0.parts ≡ key.passes =
    c.requires.whole ∙ sym (ap (λ (s : SharedState g.row.A.Denot). s.passes) c.self.view_is) in
    subst (λ (s : SharedState g.row.A.Denot).
    GivesUp tells s.start s.passes c.args.seat.me.0 c.take-value.result)
    c.self.view_is
    (gives_up tells key.start.value key.passes last.0 last.1.0 c.args.seat.id
    c.args.seat.me.0 c.take-value.result last.1.1 c.requires.own.1 c.requires.own.3 whole
    (λ z here. some-injective z c.take-value.result
    (sym (last.4 0 z here) ∙ c.take-value.ensures.value)))
