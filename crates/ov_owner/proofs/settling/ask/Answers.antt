use Rattle.std.proofs.Common.{Some, ap, refl, subst, sym}
use Rattle.std.proofs.lemmas.Result.{err_from_is_err_and}
use Rattle.ov_record.specs.Updates.{sealed_update}
use Rattle.ov_wire.specs.declared.request.Request.{Request}
use Rattle.ov_wire.specs.AnswersTo.{IsAnswer}
use Rattle.ov_wire.specs.Requests.{HasRequestForm}
use Rattle.ov_owner.specs.Talks.{Asks}
use Rattle.ov_owner.specs.Changes.{errand_of}
use Rattle.ov_client.proofs.Answering.{answer_is}
use Rattle.ov_owner.proofs.Trying.{seal_fails, seal_never_links, sends_next, too_low}
use Rattle.ov_owner.proofs.Talking.{exchange_fails, nothing_asked}
use Rattle.ov_owner.proofs.settling.ask.Goals as goal

pub returns-in_err-request-clause-asked : goal.returns-in_err-request-clause-asked
returns-in_err-request-clause-asked g c = λ surface.
    let p = err_from_is_err_and c.from_residual.result c.from_residual.ensures.1 in
    rw (p.1, p.2)
    (λ tries. nothing_asked g.P.Peer.tells surface (errand_of c.args.base.now.bytes c.args.change.now)
    (Asks tries c.args.least) c.args.peer.now)

pub returns-in-Err-clause-asked : goal.returns-in-Err-clause-asked
returns-in-Err-clause-asked g c = λ surface tries.
    let ours = c.in_ok-request.ensures.request c.args.base.now.bytes in
    rw c.fault_of.ensures
    (exchange_fails g.P.Peer.tells surface (errand_of c.args.base.now.bytes c.args.change.now)
    (Asks tries c.args.least) c.in_ok-request.request (ap Some (sym ours)) (subst HasRequestForm ours c.in-Err.ensures.form)
    c.args.peer.now c.exchange.new.peer c.in-Err.fault (λ place. refl) c.in-Err.ensures.exchanges)

pub seal-requires-clause-answer : goal.seal-requires-clause-answer
seal-requires-clause-answer g c =
    let a = c.in-Ok.ensures.exchanges in
    subst (λ (r : Request). IsAnswer r c.in-Ok.answer) (c.in_ok-request.ensures.request c.args.base.now.bytes)
    (answer_is c.in_ok-request.request a.reply c.in-Ok.answer a.bytes a.reads)

pub returns-in_err-sealed-clause-asked : goal.returns-in_err-sealed-clause-asked
returns-in_err-sealed-clause-asked g c = λ surface.
    let p = err_from_is_err_and c.from_residual-in_err-sealed.result c.from_residual-in_err-sealed.ensures.1 in
    rw (p.1, p.2)
    (λ tries. seal_fails g.P.Peer.tells surface (errand_of c.args.base.now.bytes c.args.change.now)
    tries c.args.least c.args.peer.now c.exchange.new.peer c.in_ok-request.request
    (c.in_ok-request.ensures.request c.args.base.now.bytes) c.in-Ok.ensures.form c.in-Ok.answer
    c.in-Ok.ensures.exchanges c.in_err-sealed.field-0.0 c.in_err-sealed.ensures.sealed)

pub returns-then-sealed-least-clause-asked : goal.returns-then-sealed-least-clause-asked
returns-then-sealed-least-clause-asked g c = λ surface tries.
    too_low g.P.Peer.tells surface (errand_of c.args.base.now.bytes c.args.change.now)
    tries c.args.least c.args.peer.now c.exchange.new.peer c.in_ok-request.request
    (c.in_ok-request.ensures.request c.args.base.now.bytes) c.in-Ok.ensures.form c.in-Ok.answer
    c.in-Ok.ensures.exchanges c.in_ok-sealed.sealed.epoch (sealed_update c.in_ok-sealed.sealed.update)
    c.in_ok-sealed.ensures.sealed c.if-sealed-least.true

pub returns-clause-asked : goal.returns-clause-asked
returns-clause-asked g c = λ surface tries.
    sends_next g.P.Peer.tells surface (errand_of c.args.base.now.bytes c.args.change.now)
    tries c.args.least c.args.peer.now c.exchange.new.peer c.in_ok-request.request
    (c.in_ok-request.ensures.request c.args.base.now.bytes) c.in-Ok.ensures.form c.in-Ok.answer
    c.in-Ok.ensures.exchanges c.in_ok-sealed.sealed.epoch (sealed_update c.in_ok-sealed.sealed.update)
    c.in_ok-sealed.ensures.sealed c.if-sealed-least.false

pub returns-in_err-sealed-clause-cause : goal.returns-in_err-sealed-clause-cause
returns-in_err-sealed-clause-cause g c =
    let p = err_from_is_err_and c.from_residual-in_err-sealed.result c.from_residual-in_err-sealed.ensures.1 in
    rw (p.1, p.2)
    (record {
      later = c.in-Ok.ensures.cause.later;
      link = λ is. absurd (seal_never_links c.args.base.now.bytes c.args.change.now c.in-Ok.answer c.in_err-sealed.field-0.0
          c.in_err-sealed.ensures.sealed (cc is));
    })
