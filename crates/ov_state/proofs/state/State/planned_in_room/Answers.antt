use Rattle.std.proofs.Common.{sym, ◌∙◌, rules, subst}
use Rattle.std.proofs.lemmas.Result.{err_from_is_err_and}
use Rattle.ov_state.specs.Asking.{IsRefusedFor}
use Rattle.ov_state.specs.NewFiles.{room_then}
use Rattle.ov_state.specs.declared.fault.ChainFault.{ChainFault}
use Rattle.ov_state.proofs.FileRoom.{asked_site, room_left, room_spent}
use Rattle.ov_state.proofs.state.State.planned_in_room.Goals as goal

pub returns-in_err-cover : goal.returns-in_err-cover
returns-in_err-cover g c =
    let s = c.args.self.now.catalogue in
    let p = err_from_is_err_and c.from_residual.result c.from_residual.ensures.1 in
    rw p.1 (subst (λ (fault : ChainFault). IsRefusedFor (room_then s c.args.list) fault) (sym p.2)
    (asked_site s c.args.list c.in_err-cover.field-0.0 c.in_err-cover.ensures.err))

pub returns-then-is_spent : goal.returns-then-is_spent
returns-then-is_spent g c =
    room_spent c.args.self.now.catalogue c.args.list c.in_ok-cover.ensures.few (sym c.is_spent.ensures ∙ c.if-is_spent.true)

pub returns : goal.returns
returns g c =
    let none = room_left c.args.self.now.catalogue c.args.list c.in_ok-cover.ensures.few (sym c.is_spent.ensures ∙ c.if-is_spent.false) in
    let cover = c.in_ok-cover.ensures.cover in
    search rules
