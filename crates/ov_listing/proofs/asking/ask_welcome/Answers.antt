use Rattle.std.proofs.Common.{subst, sym, Result, Err}
use Rattle.ov_wire.specs.declared.answer.Welcome.{Welcome}
use Rattle.ov_listing.specs.Questions.{IsWelcomeAt}
use Rattle.ov_listing.specs.Telling.{Told}
use Rattle.ov_listing.specs.declared.fault.ListingFault.{ListingFault}
use Rattle.ov_listing.proofs.OneQuestion.{welcome_told}
use Rattle.ov_listing.proofs.asking.ask_welcome.Goals as goal
use Rattle.ov_listing.specs.Causes.{IsSettled}
use Rattle.ov_listing.proofs.Settling.{fault_settled, welcome_settled}
use Rattle.ov_wire.specs.declared.request.Request.TheVariants.{Hello}
use Rattle.ov_listing.specs.Reasons.{BlamesReply}
use Rattle.ov_listing.proofs.Blaming.{asked_blames, welcome_blames, welcome_greets}

pub returns-in-Ok-clause-told : goal.returns-in-Ok-clause-told
returns-in-Ok-clause-told g c = λ alone v is_alone serves.
    let peer = g.P.Peer.tells in
    let q = c.exchange.new.peer in
    subst (λ (r : Result Welcome ListingFault). Told alone v (peer.serves q) IsWelcomeAt r)
    (sym c.welcome_in.ensures)
    (welcome_told peer c.args.peer.now q alone v is_alone serves c.in-Ok.ensures.form c.in-Ok.answer
    c.in-Ok.ensures.exchanges)

pub returns-in-Ok-clause-settled : goal.returns-in-Ok-clause-settled
returns-in-Ok-clause-settled g c =
    subst (λ (r : Result Welcome ListingFault). IsSettled r) (sym c.welcome_in.ensures)
    (welcome_settled c.in-Ok.answer)

pub returns-in-Err-clause-settled : goal.returns-in-Err-clause-settled
returns-in-Err-clause-settled g c =
    subst (λ (f : ListingFault). IsSettled {T = Welcome} (Err f)) (sym c.fault_of.ensures)
    (fault_settled Welcome c.in-Err.fault)

pub returns-in-Ok-clause-blames : goal.returns-in-Ok-clause-blames
returns-in-Ok-clause-blames g c =
    welcome_blames g.P.Peer.tells c.args.peer.now c.exchange.new.peer c.in-Ok.answer
    c.in-Ok.ensures.exchanges c.welcome_in.result c.welcome_in.ensures

pub returns-in-Ok-clause-greets : goal.returns-in-Ok-clause-greets
returns-in-Ok-clause-greets g c =
    welcome_greets g.P.Peer.tells c.args.peer.now c.exchange.new.peer c.in-Ok.answer
    c.in-Ok.ensures.exchanges c.welcome_in.result c.welcome_in.ensures

pub returns-in-Err-clause-blames : goal.returns-in-Err-clause-blames
returns-in-Err-clause-blames g c =
    let peer = g.P.Peer.tells in
    let q = c.exchange.new.peer in
    subst (BlamesReply peer q) (sym c.fault_of.ensures)
    (asked_blames peer c.args.peer.now q Hello c.in-Err.fault c.in-Err.ensures.exchanges)
