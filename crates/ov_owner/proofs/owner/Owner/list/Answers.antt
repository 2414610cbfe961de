use Rattle.std.proofs.Common.{List, subst, sym, ℕ}
use Rattle.std.specs.Prelude.{Result, Err}
use Rattle.ov_wire.specs.declared.request.Request.TheVariants.{List as ListNames}
use Rattle.ov_peer.proofs.Telling.{exchanges_told}
use Rattle.ov_owner.specs.Completeness.{IsCompleteCall, SaysList}
use Rattle.ov_owner.specs.Helpers.{owner_fault}
use Rattle.ov_owner.specs.Questions.{IsListOf, names_in}
use Rattle.ov_owner.specs.declared.fault.OwnerFault.{OwnerFault}
use Rattle.ov_owner.proofs.Answered.{exchange_linked, list_complete, names_unlinked}
use Rattle.ov_owner.proofs.Questioning.{answered_once, list_told, unanswered_once}
use Rattle.ov_owner.proofs.owner.Owner.list.Goals as goal

pub returns-in-Ok-clause-told : goal.returns-in-Ok-clause-told
returns-in-Ok-clause-told g c = λ v serves.
    let q = c.exchange.new.peer in
    subst (IsListOf v (g.P.Peer.tells.serves q) c.args.file.now) (sym c.names_in.ensures)
    (subst (λ (name : List ℕ). IsListOf v (g.P.Peer.tells.serves q) name (names_in c.in-Ok.answer)) c.copy.ensures
    (list_told (g.P.Peer.tells.serves q) v c.copy.result c.in-Ok.answer
    (exchanges_told g.P.Peer.tells c.args.peer.now q (ListNames c.copy.result) c.in-Ok.answer v
    c.in-Ok.ensures.form c.in-Ok.ensures.exchanges serves)))

pub returns-in-Ok-clause-complete : goal.returns-in-Ok-clause-complete
returns-in-Ok-clause-complete g c =
    let tells = g.P.Peer.tells in
    let k = c.args.self.now in
    let p = c.args.peer.now in
    let q = c.exchange.new.peer in
    let name = c.copy.result in
    subst (λ (r : Result (List (List ℕ)) OwnerFault).
    IsCompleteCall tells k p q (SaysList k c.args.file.now) r) (sym c.names_in.ensures)
    (subst (λ (n : List ℕ). IsCompleteCall tells k p q (SaysList k n) (names_in c.in-Ok.answer))
    c.copy.ensures
    (list_complete tells k p q name (names_in c.in-Ok.answer) c.in-Ok.ensures.form
    (answered_once tells p q (ListNames name) names_in c.in-Ok.answer c.in-Ok.ensures.exchanges)
    (λ link. absurd (names_unlinked c.in-Ok.answer link))))

pub returns-clause-complete : goal.returns-clause-complete
returns-clause-complete g c =
    let tells = g.P.Peer.tells in
    let k = c.args.self.now in
    let p = c.args.peer.now in
    let q = c.exchange.new.peer in
    let name = c.copy.result in
    let fault = c.in-Err.fault in
    subst (λ (f : OwnerFault). IsCompleteCall tells k p q (SaysList k c.args.file.now) (Err f))
    (sym c.fault_of.ensures)
    (subst (λ (n : List ℕ).
    IsCompleteCall tells k p q (SaysList k n) (Err (owner_fault fault))) c.copy.ensures
    (list_complete tells k p q name (Err (owner_fault fault)) c.in-Err.ensures.form
    (unanswered_once tells p q (ListNames name) names_in fault c.in-Err.ensures.exchanges)
    (λ link.
    exchange_linked (tells.faults p) (tells.faults q) fault c.in-Err.ensures.cause.failed (cc link))))
