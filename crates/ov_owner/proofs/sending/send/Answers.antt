use Rattle.std.proofs.Common.{◌≡◌, Err, Ok, subst}
use Rattle.std.proofs.lemmas.Result.{err_from_is_err_and}
use Rattle.ov_record.specs.Updates.{sealed_update}
use Rattle.ov_wire.specs.declared.request.Request.{Request}
use Rattle.ov_wire.specs.declared.request.Request.TheVariants.{Update}
use Rattle.ov_wire.specs.Requests.{HasRequestForm}
use Rattle.ov_peer.specs.Exchanges.{Exchanges}
use Rattle.ov_owner.specs.Talks.{Sends, update_request}
use Rattle.ov_owner.proofs.Talking.{nothing_asked, sent_by, unsent_by}
use Rattle.ov_owner.proofs.sending.send.Goals as goal

pub returns-in_err-spelling-clause-sent : goal.returns-in_err-spelling-clause-sent
returns-in_err-spelling-clause-sent g c = λ e tries.
    let p = err_from_is_err_and c.from_residual.result c.from_residual.ensures.1 in
    rw (p.1, p.2)
    (nothing_asked g.P.Peer.tells c.args.surface.now.bytes e
    (Sends tries c.args.sealed.epoch (sealed_update c.args.sealed.update)) c.args.peer.now)

pub returns-in-Ok-clause-sent : goal.returns-in-Ok-clause-sent
returns-in-Ok-clause-sent g c = λ e tries.
    let u = sealed_update c.args.sealed.update in
    let epoch = c.args.sealed.epoch in
    let surface = c.args.surface.now.bytes in
    let p = c.args.peer.now in
    let q = c.exchange_update.new.peer in
    let ours : Update epoch c.in_ok-spelling.spelling c.in_ok-spelling.tag ≡ update_request surface epoch u = c.in_ok-spelling.ensures.request in
    rw c.sent_of.ensures
    (sent_by g.P.Peer.tells surface e tries epoch u
    (c.in_ok-spelling.ensures.form, subst HasRequestForm ours c.in-Ok.ensures.form) p q c.in-Ok.answer
    (subst (λ (r : Request). Exchanges g.P.Peer.tells p q r (Ok c.in-Ok.answer)) ours c.in-Ok.ensures.exchanges))

pub returns-in-Err-clause-sent : goal.returns-in-Err-clause-sent
returns-in-Err-clause-sent g c = λ e tries.
    let u = sealed_update c.args.sealed.update in
    let epoch = c.args.sealed.epoch in
    let surface = c.args.surface.now.bytes in
    let p = c.args.peer.now in
    let q = c.exchange_update.new.peer in
    let ours : Update epoch c.in_ok-spelling.spelling c.in_ok-spelling.tag ≡ update_request surface epoch u = c.in_ok-spelling.ensures.request in
    rw c.fault_of.ensures
    (unsent_by g.P.Peer.tells surface e tries epoch u
    (c.in_ok-spelling.ensures.form, subst HasRequestForm ours c.in-Err.ensures.form) p q c.in-Err.fault
    (subst (λ (r : Request). Exchanges g.P.Peer.tells p q r (Err c.in-Err.fault)) ours c.in-Err.ensures.exchanges))
