use Rattle.std.proofs.Common.{◌≡◌, ◌*◌, Some, refl, sym, subst, true, false}
use Rattle.std.proofs.lemmas.Result.{err_from_is_err_and}
use Rattle.ov_base.specs.declared.refusal.Refusal.{Refusal}
use Rattle.ov_base.specs.declared.refusal.Refusal.TheVariants.{Listed, NotListed}
use Rattle.ov_history.specs.Asking.{refusal_at}
use Rattle.ov_state.specs.Relistings.{update_by, IsDecided}
use Rattle.ov_state.specs.declared.relisting.Verb.{Verb}
use Rattle.ov_state.specs.declared.relisting.Verb.TheVariants.{Grant, Revoke}
use Rattle.ov_state.proofs.Deciding.{decided-granted, decided-missing, decided-refused, decided-revoked}
use Rattle.ov_state.proofs.state.State.decided.Goals as goal

pub returns-in_err-listing-clause-err : goal.returns-in_err-listing-clause-err
returns-in_err-listing-clause-err g c =
    let s = c.args.self.now.catalogue in
    let p = err_from_is_err_and c.from_residual.result c.from_residual.ensures.1 in
    rw p.1 (subst (λ (why : Refusal). refusal_at s (update_by c.args.verb c.args.user c.args.file) ≡ Some why) (sym p.2)
    (decided-missing (64 * g.row.W) s c.args.user c.args.file c.known.ensures c.args.verb c.in_err-listing.field-0.0 c.in_err-listing.ensures.err))

pub returns-in-Grant-true-clause-err : goal.returns-in-Grant-true-clause-err
returns-in-Grant-true-clause-err g c =
    let s = c.args.self.now.catalogue in
    subst (λ (v : Verb). refusal_at s (update_by v c.args.user c.args.file) ≡ Some Listed) (sym c.in-Grant-true.is-0)
    (decided-refused (64 * g.row.W) s c.args.user c.args.file c.known.ensures c.in_ok-listing.listing c.in_ok-listing.ensures.ok
    Grant true (sym c.in-Grant-true.ensures.member) refl)

pub returns-in-Grant-false-clause-ok : goal.returns-in-Grant-false-clause-ok
returns-in-Grant-false-clause-ok g c =
    let s = c.args.self.now.catalogue in
    subst (λ (v : Verb). IsDecided s (update_by v c.args.user c.args.file) c.args.user c.args.file c.granted.result) (sym c.in-Grant-false.is-0)
    (decided-granted (64 * g.row.W) s c.args.user c.args.file c.known.ensures c.in_ok-listing.listing c.in_ok-listing.ensures.ok
    (sym c.in-Grant-false.ensures.member) c.granted.result c.granted.ensures)

pub returns-in-Revoke-true-clause-ok : goal.returns-in-Revoke-true-clause-ok
returns-in-Revoke-true-clause-ok g c =
    let s = c.args.self.now.catalogue in
    subst (λ (v : Verb). IsDecided s (update_by v c.args.user c.args.file) c.args.user c.args.file c.revoked.result) (sym c.in-Revoke-true.is-0)
    (decided-revoked (64 * g.row.W) s c.args.user c.args.file c.known.ensures c.in_ok-listing.listing c.in_ok-listing.ensures.ok
    (sym c.in-Revoke-true.ensures.member) c.revoked.result c.revoked.ensures)

pub returns-in-Revoke-false-clause-err : goal.returns-in-Revoke-false-clause-err
returns-in-Revoke-false-clause-err g c =
    let s = c.args.self.now.catalogue in
    subst (λ (v : Verb). refusal_at s (update_by v c.args.user c.args.file) ≡ Some NotListed) (sym c.in-Revoke-false.is-0)
    (decided-refused (64 * g.row.W) s c.args.user c.args.file c.known.ensures c.in_ok-listing.listing c.in_ok-listing.ensures.ok
    Revoke false (sym c.in-Revoke-false.ensures.member) refl)
