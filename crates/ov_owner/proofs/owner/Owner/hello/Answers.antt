use Rattle.std.proofs.Common.{subst, sym}
use Rattle.std.specs.Prelude.{Result, Err}
use Rattle.ov_wire.specs.declared.answer.Welcome.{Welcome}
use Rattle.ov_wire.specs.declared.request.Request.TheVariants.{Hello}
use Rattle.ov_peer.proofs.Telling.{exchanges_told}
use Rattle.ov_owner.specs.Completeness.{IsCompleteCall, SaysWelcome}
use Rattle.ov_owner.specs.Helpers.{owner_fault}
use Rattle.ov_owner.specs.Questions.{IsWelcomeOf, welcome_in}
use Rattle.ov_owner.specs.declared.fault.OwnerFault.{OwnerFault}
use Rattle.ov_owner.proofs.Answered.{exchange_linked, hello_complete, welcome_unlinked}
use Rattle.ov_owner.proofs.Questioning.{answered_once, unanswered_once, welcome_told}
use Rattle.ov_owner.proofs.owner.Owner.hello.Goals as goal

pub returns-in-Ok-clause-told : goal.returns-in-Ok-clause-told
returns-in-Ok-clause-told g c = λ v serves.
    subst (IsWelcomeOf v (g.P.Peer.tells.serves c.exchange.new.peer)) (sym c.welcome_in.ensures)
    (welcome_told (g.P.Peer.tells.serves c.exchange.new.peer) v c.in-Ok.answer
    (exchanges_told g.P.Peer.tells c.args.peer.now c.exchange.new.peer Hello c.in-Ok.answer v
    c.in-Ok.ensures.form c.in-Ok.ensures.exchanges serves))

pub returns-in-Ok-clause-complete : goal.returns-in-Ok-clause-complete
returns-in-Ok-clause-complete g c =
    let tells = g.P.Peer.tells in
    let p = c.args.peer.now in
    let q = c.exchange.new.peer in
    subst (λ (r : Result Welcome OwnerFault). IsCompleteCall tells c.args.self.now p q SaysWelcome r)
    (sym c.welcome_in.ensures)
    (hello_complete tells c.args.self.now p q (welcome_in c.in-Ok.answer) c.in-Ok.ensures.form
    (answered_once tells p q Hello welcome_in c.in-Ok.answer c.in-Ok.ensures.exchanges)
    (λ link. absurd (welcome_unlinked c.in-Ok.answer link)))

pub returns-in-Err-clause-complete : goal.returns-in-Err-clause-complete
returns-in-Err-clause-complete g c =
    let tells = g.P.Peer.tells in
    let p = c.args.peer.now in
    let q = c.exchange.new.peer in
    let fault = c.in-Err.fault in
    subst (λ (f : OwnerFault). IsCompleteCall tells c.args.self.now p q SaysWelcome (Err f))
    (sym c.fault_of.ensures)
    (hello_complete tells c.args.self.now p q (Err (owner_fault fault)) c.in-Err.ensures.form
    (unanswered_once tells p q Hello welcome_in fault c.in-Err.ensures.exchanges)
    (λ link.
    exchange_linked (tells.faults p) (tells.faults q) fault c.in-Err.ensures.cause.failed (cc link)))
