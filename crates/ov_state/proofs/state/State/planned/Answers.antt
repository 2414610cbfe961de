use Rattle.std.proofs.Common.{◌*◌, sym, ◌∙◌, [], subst}
use Rattle.std.specs.Prelude.{Option}
use Rattle.ov_base.specs.declared.refusal.Refusal.{Refusal}
use Rattle.ov_state.specs.Asking.{PlansFor}
use Rattle.ov_state.proofs.Creating.{create-room, refused_before}
use Rattle.ov_state.proofs.state.State.planned.Goals as goal

pub returns-in-Some : goal.returns-in-Some
returns-in-Some g c =
    refused_before (64 * g.row.W) [] c.args.self.now.catalogue c.args.name.now c.args.list [] [] c.args.size
    c.known.ensures c.in-Some.why
    (sym c.refusal_create.ensures.why ∙ c.in-Some.is)

pub returns : goal.returns
returns g c =
    let s = c.args.self.now.catalogue in
    let room = create-room (64 * g.row.W) [] s c.args.name.now c.args.list [] [] c.args.size c.known.ensures
    (sym c.refusal_create.ensures.why ∙ c.in_default.is) in
    subst (λ (refusal : Option Refusal). PlansFor s refusal c.args.list c.planned_in_room.result) (sym room) c.planned_in_room.ensures
