use Rattle.std.specs.Prelude.{Option, Some}
use Rattle.std.proofs.lemmas.Result.{err_from_is_err_and}
use Rattle.ov_base.specs.declared.refusal.Refusal.{Refusal}
use Rattle.ov_history.specs.Asking.{user_named}
use Rattle.ov_state.specs.Asking.{IsRefusedFor}
use Rattle.ov_state.specs.declared.fault.ChainFault.{ChainFault}
use Rattle.std.proofs.Common.{◌≡◌, ◌∙◌, Ok, None, ap, not, rules, subst, sym}
use Rattle.ov_base.specs.Sets.{has}
use Rattle.ov_history.specs.Asking.{Numbers, file_named, of_both, of_grant, refusal_at}
use Rattle.ov_history.specs.Catalogue.{outline}
use Rattle.ov_history.specs.History.{Granted}
use Rattle.ov_history.specs.Layers.{holders, node_of}
use Rattle.ov_state.specs.Asking.{numbers_of, Asks}
use Rattle.ov_state.specs.declared.asking.Asked.{Asked}
use Rattle.ov_state.proofs.Granting.{held_is}
use Rattle.ov_state.proofs.NewSets.{new-none}
use Rattle.ov_state.proofs.state.State.ask_grant.Goals as goal

pub over_wants-requires : goal.over_wants-requires
over_wants-requires g c =
    let s = c.args.self.now.catalogue in
    let none = new-none s.surface.sets c.new.result.sets.items c.known.ensures.sound.surface.few c.new.ensures in
    (search rules, (search rules, (c.in_ok-relisting.ensures.ok.relisting, none)))

pub returns : goal.returns
returns g c =
    let s = c.args.self.now.catalogue in
    let user = c.user_or_next-user.result in
    let file = c.file_or_next-file.result in
    let decided = c.in_ok-relisting.ensures.ok in
    let asked : Asked = record c.told_of_both-asked.result { wants = not c.contains.result } in
    let passes : refusal_at s (Granted user file) ≡ None = decided.rest ∙ c.in_ok-over_wants.ensures.room in
    let wants : not c.contains.result ≡ not (has (holders (outline s) (node_of (outline s) file)) user) =
    ap not (c.contains.ensures.member ∙ sym (held_is s user file c.in_ok-relisting.relisting decided)) in
    let numbers : numbers_of asked ≡ of_grant s user file =
    ap (λ (n : Numbers). record n { wants = not c.contains.result }) c.told_of_both-asked.ensures
    ∙ ap (λ w. record (of_both s user file) { wants = w }) wants in
    let named = file_named s c.args.file.now in
    subst (λ u. Asks (refusal_at s (Granted u named)) (of_grant s u named) (Ok asked)) c.user_or_next-user.ensures
    (subst (λ f. Asks (refusal_at s (Granted user f)) (of_grant s user f) (Ok asked)) c.file_or_next-file.ensures (passes, numbers))

pub returns-in_err-relisting : goal.returns-in_err-relisting
returns-in_err-relisting g c =
    let s = c.args.self.now.catalogue in
    let why = c.in_err-relisting.field-0.0 in
    let user = c.user_or_next-user.result in
    let named = file_named s c.args.file.now in
    let u = user_named s c.args.user.now in
    let refused : refusal_at s (Granted u named) ≡ Some why =
    subst (λ u. refusal_at s (Granted u named) ≡ Some why) c.user_or_next-user.ensures
    (subst (λ f. refusal_at s (Granted user f) ≡ Some why) c.file_or_next-file.ensures c.in_err-relisting.ensures.err) in
    let p = err_from_is_err_and c.from_residual.result c.from_residual.ensures.1 in
    rw p.1 (subst (λ (fault : ChainFault). IsRefusedFor (refusal_at s (Granted u named)) fault) (sym p.2) refused)

pub returns-in_err-over_wants : goal.returns-in_err-over_wants
returns-in_err-over_wants g c =
    let s = c.args.self.now.catalogue in
    let fault = c.in_err-over_wants.field-0.0 in
    let user = c.user_or_next-user.result in
    let named = file_named s c.args.file.now in
    let u = user_named s c.args.user.now in
    let told : IsRefusedFor (refusal_at s (Granted user c.file_or_next-file.result)) fault =
    subst (λ (why : Option Refusal). IsRefusedFor why fault) (sym c.in_ok-relisting.ensures.ok.rest) c.in_err-over_wants.ensures.room in
    let refused : IsRefusedFor (refusal_at s (Granted u named)) fault =
    subst (λ u. IsRefusedFor (refusal_at s (Granted u named)) fault) c.user_or_next-user.ensures
    (subst (λ f. IsRefusedFor (refusal_at s (Granted user f)) fault) c.file_or_next-file.ensures told) in
    let p = err_from_is_err_and c.from_residual-in_err-over_wants.result c.from_residual-in_err-over_wants.ensures.1 in
    rw p.1 (subst (λ (fault : ChainFault). IsRefusedFor (refusal_at s (Granted u named)) fault) (sym p.2) refused)
