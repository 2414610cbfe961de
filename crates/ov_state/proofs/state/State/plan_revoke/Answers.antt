use Rattle.std.proofs.Common.{◌≡◌, ◌*◌, ◌∙◌, ap, refl, sym, subst, rules}
use Rattle.std.proofs.lemmas.Result.{err_from_is_err_and}
use Rattle.ov_base.specs.declared.key.Key.{Key}
use Rattle.ov_record.specs.Briefs.{BriefRevoke as SpelledRevoke}
use Rattle.ov_history.specs.Briefs.{BriefRevoke}
use Rattle.ov_history.specs.Catalogue.{outline}
use Rattle.ov_state.specs.declared.change.Change.{Change}
use Rattle.ov_state.specs.declared.fault.PrepareFault.{PrepareFault}
use Rattle.ov_state.specs.Plans.{IsChange, IsFaultOf}
use Rattle.ov_state.specs.Relistings.{wants_after, AreSettled}
use Rattle.ov_state.proofs.ListChanges.{revoke-change}
use Rattle.ov_state.proofs.RoomTests.{asked-fault}
use Rattle.ov_state.proofs.SettledFiles.{settled-no_file}
use Rattle.ov_state.proofs.state.State.plan_revoke.Goals as goal

pub over_wants-requires : goal.over_wants-requires
over_wants-requires g c =
    let s = c.args.self.now.catalogue in
    let none = settled-no_file c.new-plan.result.master.now.bytes s c.new-plan.result c.known.ensures.sound.surface.few
    c.new-plan.ensures.nodes c.new-plan.ensures.sets c.new-plan.ensures.list in
    (search rules, (search rules, (c.in_ok-relisting.ensures.ok.relisting, (none, refl))))

pub returns-in_err-over_wants : goal.returns-in_err-over_wants
returns-in_err-over_wants g c =
    let s = c.args.self.now.catalogue in
    let p = err_from_is_err_and c.from_residual-in_err-over_wants.result c.from_residual-in_err-over_wants.ensures.1 in
    rw p.1 (subst (λ (fault : PrepareFault). IsFaultOf g.row.W s (SpelledRevoke c.args.user c.args.file) fault) (sym p.2)
    (asked-fault g.row.W s (SpelledRevoke c.args.user c.args.file) _ c.in_err-over_wants.field-0.0 c.in_ok-relisting.ensures.ok.rest
    c.in_err-over_wants.ensures.room))

pub returns : goal.returns
returns g c =
    let s = c.args.self.now.catalogue in
    let y = outline s in
    let plan = c.over_wants.new.collector in
    let done = c.in_ok-over_wants.ensures.ok in
    let master : plan.master.now.bytes ≡ c.args.surface.now.bytes = ap (λ (k : Key). k.bytes) (done.1 ∙ c.new-plan.ensures.master) in
    let settled = subst (λ master. AreSettled master s (wants_after y c.in_ok-relisting.relisting 0 y.files) plan) master done.0 in
    subst (λ (change : Change g.row.W). IsChange (64 * g.row.W) c.args.surface.now.bytes s (BriefRevoke c.args.user c.args.file) change) (sym c.relisted.ensures)
    (revoke-change (64 * g.row.W) s c.args.user c.args.file c.known.ensures c.in_ok-relisting.relisting c.in_ok-relisting.ensures.ok
    (c.in_ok-relisting.ensures.ok.rest ∙ c.in_ok-over_wants.ensures.room) c.args.surface.now.bytes plan settled)
