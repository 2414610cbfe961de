use Rattle.std.proofs.Common.{ℕ, Some, None, subst}
use Rattle.std.specs.Prelude.{Option}
use Rattle.ov_history.specs.Places.{IsNumber}
use Rattle.ov_history.proofs.PlaceLaws.{number_by}
use Rattle.ov_state.specs.Contents.{Held}
use Rattle.ov_state.proofs.state.State.user_number.Goals as goal

pub returns-in-Some : goal.returns-in-Some
returns-in-Some g c =
    let names = c.self.inside.users.keys in
    let number = number_by names c.args.name.now c.get_index_of.result c.get_index_of.ensures.index in
    subst (λ (h : Held). IsNumber h.catalogue.users c.args.name.now (Some c.in-Some.user)) c.self.view_is
    (subst (λ (r : Option ℕ). IsNumber names c.args.name.now r) c.in-Some.is number)

pub returns-in-None : goal.returns-in-None
returns-in-None g c =
    let names = c.self.inside.users.keys in
    let number = number_by names c.args.name.now c.get_index_of.result c.get_index_of.ensures.index in
    subst (λ (h : Held). IsNumber h.catalogue.users c.args.name.now None) c.self.view_is
    (subst (λ (r : Option ℕ). IsNumber names c.args.name.now r) c.in-None.is number)
