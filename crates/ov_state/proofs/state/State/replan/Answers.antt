use Rattle.std.proofs.Common.{◌≡◌, ◌*◌, ◌∙◌, rules, subst, sym, true, ℕ}
use Rattle.std.specs.Prelude.{is_some, Option}
use Rattle.ov_base.specs.declared.refusal.Refusal.{Refusal}
use Rattle.ov_history.specs.Asking.{file_named, refusal_at}
use Rattle.ov_history.specs.History.{Replaced}
use Rattle.ov_history.specs.Places.{living_at}
use Rattle.ov_state.specs.Asking.{PlansFor}
use Rattle.ov_state.proofs.Replacing.{replace-before, replace-list, replace-room, replace-there}
use Rattle.ov_state.proofs.state.State.replan.Goals as goal

pub returns-in-Some : goal.returns-in-Some
returns-in-Some g c =
    replace-before (64 * g.row.W) c.args.self.now.catalogue c.file_or_next-number.result c.args.size c.known.ensures _ c.file_or_next-number.ensures
    c.in-Some.why (sym c.refusal_replace.ensures ∙ c.in-Some.is)

pub list_of-requires : goal.list_of-requires
list_of-requires g c =
    let there : is_some (living_at c.args.self.now.catalogue.files c.file_or_next-number.result) ≡ true =
    replace-there (64 * g.row.W) c.args.self.now.catalogue c.file_or_next-number.result c.args.size c.known.ensures
    (sym c.refusal_replace.ensures ∙ c.in_default.is) in
    search rules

pub returns : goal.returns
returns g c =
    let s = c.args.self.now.catalogue in
    let passed = sym c.refusal_replace.ensures ∙ c.in_default.is in
    let list = replace-list (64 * g.row.W) s c.file_or_next-number.result c.args.size c.known.ensures passed _ c.list_of.result c.file_or_next-number.ensures c.list_of.ensures in
    let room = replace-room (64 * g.row.W) s c.file_or_next-number.result c.args.size c.known.ensures passed _ c.list_of.result c.file_or_next-number.ensures c.list_of.ensures in
    let why = refusal_at s (Replaced (file_named s c.args.file.now) c.args.size) in
    subst (λ (set : ℕ). PlansFor s why set c.planned_in_room.result) list
    (subst (λ (refusal : Option Refusal). PlansFor s refusal c.list_of.result c.planned_in_room.result) (sym room) c.planned_in_room.ensures)
