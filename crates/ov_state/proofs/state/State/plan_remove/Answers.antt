use Rattle.std.proofs.Common.{◌≡◌, ◌*◌, ◌∙◌, rules, subst, sym, true}
use Rattle.std.specs.Prelude.{is_some, IfNone, Option}
use Rattle.ov_base.specs.declared.refusal.Refusal.{Refusal}
use Rattle.ov_history.specs.Places.{living_at}
use Rattle.ov_state.proofs.Removing.{removal}
use Rattle.ov_state.proofs.state.State.plan_remove.Goals as goal

pub returns-in-Some : goal.returns-in-Some
returns-in-Some g c = λ master. sym c.refusal_remove.ensures.why ∙ c.in-Some.is

pub removal-requires : goal.removal-requires
removal-requires g c =
    let files = c.args.self.now.catalogue.files in
    let there : is_some (living_at files c.args.file) ≡ true =
    subst (λ (r : Option Refusal). IfNone r (is_some (living_at files c.args.file) ≡ true)) c.in_default.is c.refusal_remove.ensures.there in
    search rules

pub returns : goal.returns
returns g c = λ master.
    removal (64 * g.row.W) c.args.self.now.catalogue c.args.file c.removal.result c.known.ensures
    c.removal.ensures master (sym c.refusal_remove.ensures.why ∙ c.in_default.is)
