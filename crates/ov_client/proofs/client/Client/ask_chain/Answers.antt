use Rattle.std.proofs.Common.{◌≡◌, ◌∙◌, ap, refl, subst, sym, Ok, Err, Some, [], Result}
use Rattle.std.specs.Prelude.{IfOk}
use Rattle.ov_wire.specs.declared.answer.Chained.{Chained}
use Rattle.ov_wire.specs.declared.request.Request.TheVariants as requests
use Rattle.ov_wire.specs.AnswersTo.{IsChained}
use Rattle.ov_client.specs.Readers.{Reader}
use Rattle.ov_client.specs.Reads.{Reaches, ReadsFrom}
use Rattle.ov_client.specs.Talks.{AsksChain, goes_on, then_or}
use Rattle.ov_client.specs.declared.fault.ClientFault.{ClientFault}
use Rattle.ov_client.proofs.Answering.{answer_is, chained_form, few_steps}
use Rattle.ov_client.proofs.Talking.{answered, told, unanswered}
use Rattle.ov_client.proofs.client.Client.ask_chain.Goals as goal

pub chained_in-requires : goal.chained_in-requires
chained_in-requires g c =
    let a = c.in-Ok.ensures.exchanges in
    few_steps c.copy.result c.copy-2.result c.in-Ok.answer
    (answer_is (requests.Chain c.copy.result c.copy-2.result) a.reply c.in-Ok.answer a.bytes
    a.reads)

pub returns-in-Ok-clause-form : goal.returns-in-Ok-clause-form
returns-in-Ok-clause-form g c =
    let a = c.in-Ok.ensures.exchanges in
    subst (λ (x : Result Chained ClientFault). IfOk x IsChained) (sym c.chained_in.ensures)
    (chained_form c.args.self.now c.args.least c.copy.result c.copy-2.result c.in-Ok.answer
    (answer_is (requests.Chain c.copy.result c.copy-2.result) a.reply c.in-Ok.answer a.bytes
    a.reads))

pub returns-in-Ok-clause-talk : goal.returns-in-Ok-clause-talk
returns-in-Ok-clause-talk g c = λ tries.
    let r : Reader = c.args.self.now in
    let name : c.copy.result ≡ r.name = c.copy.ensures
    ∙ ap (λ (x : Reader). x.name) c.self.view_is in
    let same : Some (requests.Chain r.name c.args.file.now) ≡ Some
    (requests.Chain c.copy.result c.copy-2.result) =
    λ i. Some (requests.Chain (sym name i) (sym c.copy-2.ensures i)) in
    told g.P.Peer.tells r c.args.file.now c.args.peer.now c.exchange.new.peer
    (AsksChain tries c.args.least) (λ (d : Chained). goes_on r tries d []) c.chained_in.result
    (subst
    (λ (x : Result Chained ClientFault). Reaches g.P.Peer.tells c.args.peer.now c.exchange.new.peer
    r c.args.file.now
    (AsksChain tries c.args.least) (then_or (λ (d : Chained). goes_on r tries d []) x))
    (sym c.chained_in.ensures)
    (answered g.P.Peer.tells r c.args.file.now (AsksChain tries c.args.least)
    (requests.Chain c.copy.result c.copy-2.result) same c.in-Ok.ensures.form
    c.args.peer.now c.exchange.new.peer (Ok c.in-Ok.answer) c.in-Ok.ensures.exchanges))

pub returns-clause-talk : goal.returns-clause-talk
returns-clause-talk g c = λ tries.
    let r : Reader = c.args.self.now in
    let name : c.copy.result ≡ r.name = c.copy.ensures
    ∙ ap (λ (x : Reader). x.name) c.self.view_is in
    let same : Some (requests.Chain r.name c.args.file.now) ≡ Some
    (requests.Chain c.copy.result c.copy-2.result) =
    λ i. Some (requests.Chain (sym name i) (sym c.copy-2.ensures i)) in
    subst
    (λ (f : ClientFault). ReadsFrom g.P.Peer.tells c.args.peer.now
    c.exchange.new.peer r c.args.file.now
    (AsksChain tries c.args.least) (Err f))
    (sym c.fault_of.ensures)
    (unanswered g.P.Peer.tells r c.args.file.now (AsksChain tries c.args.least)
    (requests.Chain c.copy.result c.copy-2.result) same c.in-Err.ensures.form
    c.args.peer.now c.exchange.new.peer c.in-Err.fault (λ place. refl) c.in-Err.ensures.exchanges)
