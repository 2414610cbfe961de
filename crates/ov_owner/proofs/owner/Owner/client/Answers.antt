use Rattle.std.proofs.Common.{List, subst, sym, ℕ}
use Rattle.std.specs.Prelude.{Result, Err}
use Rattle.ov_wire.specs.AnswersTo.{IsAnswer}
use Rattle.ov_wire.specs.declared.request.Question.TheVariants.{Key as AsksKey}
use Rattle.ov_wire.specs.declared.request.Request.TheVariants.{Ask}
use Rattle.ov_client.proofs.Answering.{answer_is}
use Rattle.ov_peer.proofs.Telling.{exchanges_told}
use Rattle.ov_client.specs.Readers.{Reader}
use Rattle.ov_owner.specs.Clients.{IsReaderOf, reader_in}
use Rattle.ov_owner.specs.Completeness.{IsCompleteCall, SaysReader}
use Rattle.ov_owner.specs.Helpers.{owner_fault}
use Rattle.ov_owner.specs.declared.fault.OwnerFault.{OwnerFault}
use Rattle.ov_owner.proofs.Answered.{exchange_linked, reader_complete, reader_unlinked}
use Rattle.ov_owner.proofs.Clients.{reader_told}
use Rattle.ov_owner.proofs.Questioning.{answered_once, unanswered_once}
use Rattle.ov_owner.proofs.owner.Owner.client.Goals as goal

pub reader_in-requires : goal.reader_in-requires
reader_in-requires g c =
    let a = c.in-Ok.ensures.exchanges in
    subst (λ (name : List ℕ). IsAnswer (Ask (AsksKey name)) c.in-Ok.answer) c.copy.ensures
    (answer_is (Ask (AsksKey c.copy.result)) a.reply c.in-Ok.answer a.bytes a.reads)

pub returns-in-Ok-clause-told : goal.returns-in-Ok-clause-told
returns-in-Ok-clause-told g c = λ v serves.
    let q = c.exchange.new.peer in
    let k = c.args.self.now in
    subst (IsReaderOf k v (g.P.Peer.tells.serves q) c.args.user.now) (sym c.reader_in.ensures)
    (subst (λ (name : List ℕ). IsReaderOf k v (g.P.Peer.tells.serves q) name (reader_in k name c.in-Ok.answer))
    c.copy.ensures
    (reader_told k (g.P.Peer.tells.serves q) v c.copy.result c.in-Ok.answer
    (exchanges_told g.P.Peer.tells c.args.peer.now q (Ask (AsksKey c.copy.result)) c.in-Ok.answer v
    c.in-Ok.ensures.form c.in-Ok.ensures.exchanges serves)))

pub returns-in-Ok-clause-complete : goal.returns-in-Ok-clause-complete
returns-in-Ok-clause-complete g c =
    let tells = g.P.Peer.tells in
    let k = c.args.self.now in
    let p = c.args.peer.now in
    let q = c.exchange.new.peer in
    let name = c.copy.result in
    let answer = c.in-Ok.answer in
    subst (λ (r : Result Reader OwnerFault).
    IsCompleteCall tells k p q (SaysReader k c.args.user.now) r) (sym c.reader_in.ensures)
    (subst (λ (n : List ℕ). IsCompleteCall tells k p q (SaysReader k n) (reader_in k n answer))
    c.copy.ensures
    (reader_complete tells k p q name (reader_in k name answer) c.in-Ok.ensures.form
    (answered_once tells p q (Ask (AsksKey name)) (reader_in k name) answer
    c.in-Ok.ensures.exchanges)
    (λ link. absurd (reader_unlinked k name answer link))))

pub returns-clause-complete : goal.returns-clause-complete
returns-clause-complete g c =
    let tells = g.P.Peer.tells in
    let k = c.args.self.now in
    let p = c.args.peer.now in
    let q = c.exchange.new.peer in
    let name = c.copy.result in
    let fault = c.in-Err.fault in
    subst (λ (f : OwnerFault). IsCompleteCall tells k p q (SaysReader k c.args.user.now) (Err f))
    (sym c.fault_of.ensures)
    (subst (λ (n : List ℕ).
    IsCompleteCall tells k p q (SaysReader k n) (Err (owner_fault fault))) c.copy.ensures
    (reader_complete tells k p q name (Err (owner_fault fault)) c.in-Err.ensures.form
    (unanswered_once tells p q (Ask (AsksKey name)) (reader_in k name) fault
    c.in-Err.ensures.exchanges)
    (λ link.
    exchange_linked (tells.faults p) (tells.faults q) fault c.in-Err.ensures.cause.failed (cc link))))
