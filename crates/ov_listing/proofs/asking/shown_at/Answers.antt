use Rattle.std.proofs.Common.{subst, ℕ, Ok, Err, Option, sym}
use Rattle.ov_wire.specs.declared.request.Request.TheVariants.{Page}
use Rattle.ov_wire.specs.Requests.{HasRequestForm}
use Rattle.ov_peer.specs.Exchanges.{Answered}
use Rattle.ov_listing.proofs.OneQuestion.{shown_told}
use Rattle.ov_listing.proofs.asking.shown_at.Goals as goal
use Rattle.ov_listing.specs.Causes.{IsSettled}
use Rattle.ov_listing.specs.declared.fault.ListingFault.{ListingFault}
use Rattle.ov_listing.specs.declared.shown.Shown.{Shown}
use Rattle.ov_listing.proofs.Settling.{fault_settled, page_settled}
use Rattle.ov_listing.specs.Reasons.{BlamesReply, IsOnPage}
use Rattle.std.specs.Prelude.{IfOk}
use Rattle.ov_listing.proofs.Blaming.{asked_blames, page_blames, page_there}

pub returns-in-Ok-clause-told : goal.returns-in-Ok-clause-told
returns-in-Ok-clause-told g c = λ alone v is_alone serves.
    let peer = g.P.Peer.tells in
    let p = c.args.peer.now in
    let q = c.exchange.new.peer in
    let number = c.args.number in
    shown_told peer p q alone v is_alone serves c.args.part number
    (subst (λ (part : ℕ). HasRequestForm (Page part number)) c.number.ensures c.in-Ok.ensures.form)
    c.in-Ok.answer c.shown_in.result
    (subst (λ (part : ℕ). Answered peer p q (Page part number) (Ok c.in-Ok.answer)) c.number.ensures
    c.in-Ok.ensures.exchanges)
    c.shown_in.ensures

pub returns-in-Ok-clause-settled : goal.returns-in-Ok-clause-settled
returns-in-Ok-clause-settled g c = page_settled c.in-Ok.answer c.shown_in.result c.shown_in.ensures

pub returns-clause-settled : goal.returns-clause-settled
returns-clause-settled g c =
    subst (λ (f : ListingFault). IsSettled {T = Option Shown} (Err f)) (sym c.fault_of.ensures)
    (fault_settled (Option Shown) c.in-Err.fault)

pub returns-in-Ok-clause-blames : goal.returns-in-Ok-clause-blames
returns-in-Ok-clause-blames g c =
    page_blames g.P.Peer.tells c.args.peer.now c.exchange.new.peer c.number.result c.args.number
    c.in-Ok.answer c.in-Ok.ensures.exchanges c.shown_in.result c.shown_in.ensures

pub returns-in-Ok-clause-page : goal.returns-in-Ok-clause-page
returns-in-Ok-clause-page g c =
    let peer = g.P.Peer.tells in
    let q = c.exchange.new.peer in
    subst (λ (part : ℕ). IfOk c.shown_in.result (IsOnPage peer part c.args.number q))
    c.number.ensures
    (page_there peer c.args.peer.now q c.number.result c.args.number c.in-Ok.answer
    c.in-Ok.ensures.exchanges c.shown_in.result c.shown_in.ensures)

pub returns-clause-blames : goal.returns-clause-blames
returns-clause-blames g c =
    let peer = g.P.Peer.tells in
    let q = c.exchange.new.peer in
    subst (BlamesReply peer q) (sym c.fault_of.ensures)
    (asked_blames peer c.args.peer.now q (Page c.number.result c.args.number) c.in-Err.fault
    c.in-Err.ensures.exchanges)
