use Rattle.std.proofs.Common.{subst, sym, List, ℕ, Option, Result, Err}
use Rattle.ov_listing.specs.Questions.{IsListAt, listed_in}
use Rattle.ov_listing.specs.Telling.{Told}
use Rattle.ov_listing.specs.declared.fault.ListingFault.{ListingFault}
use Rattle.ov_listing.proofs.OneQuestion.{list_told}
use Rattle.ov_listing.proofs.asking.list_of.Goals as goal
use Rattle.ov_listing.specs.Causes.{IsSettled}
use Rattle.ov_listing.proofs.Settling.{fault_settled, list_settled}
use Rattle.ov_wire.specs.declared.request.Request.TheVariants.{List as Lists}
use Rattle.ov_listing.specs.Reasons.{BlamesReply}
use Rattle.ov_listing.proofs.Blaming.{asked_blames, list_blames, list_refuses}

pub returns-in-Ok-clause-told : goal.returns-in-Ok-clause-told
returns-in-Ok-clause-told g c = λ alone v is_alone serves.
    let peer = g.P.Peer.tells in
    let q = c.exchange.new.peer in
    subst (λ (r : Result (Option (List (List ℕ))) ListingFault).
    Told alone v (peer.serves q) (IsListAt c.args.file.now) r)
    (sym c.listed_in.ensures)
    (subst (λ (file : List ℕ). Told alone v (peer.serves q) (IsListAt file) (listed_in c.in-Ok.answer))
    c.copy.ensures
    (list_told peer c.args.peer.now q alone v is_alone serves c.copy.result c.in-Ok.ensures.form
    c.in-Ok.answer c.in-Ok.ensures.exchanges))

pub returns-in-Ok-clause-settled : goal.returns-in-Ok-clause-settled
returns-in-Ok-clause-settled g c =
    subst (λ (r : Result (Option (List (List ℕ))) ListingFault). IsSettled r) (sym c.listed_in.ensures)
    (list_settled c.in-Ok.answer)

pub returns-clause-settled : goal.returns-clause-settled
returns-clause-settled g c =
    subst (λ (f : ListingFault). IsSettled {T = Option (List (List ℕ))} (Err f)) (sym c.fault_of.ensures)
    (fault_settled (Option (List (List ℕ))) c.in-Err.fault)

pub returns-in-Ok-clause-blames : goal.returns-in-Ok-clause-blames
returns-in-Ok-clause-blames g c =
    list_blames g.P.Peer.tells c.args.peer.now c.exchange.new.peer c.copy.result c.in-Ok.answer
    c.in-Ok.ensures.exchanges c.listed_in.result c.listed_in.ensures

pub returns-in-Ok-clause-refused : goal.returns-in-Ok-clause-refused
returns-in-Ok-clause-refused g c =
    list_refuses g.P.Peer.tells c.args.peer.now c.exchange.new.peer c.copy.result c.in-Ok.answer
    c.in-Ok.ensures.exchanges c.listed_in.result c.listed_in.ensures

pub returns-clause-blames : goal.returns-clause-blames
returns-clause-blames g c =
    let peer = g.P.Peer.tells in
    let q = c.exchange.new.peer in
    subst (BlamesReply peer q) (sym c.fault_of.ensures)
    (asked_blames peer c.args.peer.now q (Lists c.copy.result) c.in-Err.fault
    c.in-Err.ensures.exchanges)
