-- What a peer that tells its history answers.
use Rattle.std.proofs.Common.{◌≡◌, ℕ, List, [], ◌∷◌, Ok, refl, sym, inl, inr, subst}
use Rattle.ov_fields.specs.Fronts.{AreAllBytes}
use Rattle.ov_record.specs.Updates.{SealedUpdate}
use Rattle.ov_wire.specs.declared.request.Request.{Request}
use Rattle.ov_wire.specs.declared.answer.Answer.{Answer}
use Rattle.ov_wire.specs.declared.answer.Answer.TheVariants.{DeviceFault}
use Rattle.ov_wire.specs.AnswerReading.{answer_of}
use Rattle.ov_wire.specs.Requests.{HasRequestForm, request_bytes}
use Rattle.ov_wire.proofs.AnswerForms.{read_alike}
use Rattle.ov_protocol.specs.Serving.{Service, followed, later, served}
use Rattle.ov_protocol.proofs.Reading.{replies_are_read}
use Rattle.ov_peer.specs.Exchanges.{IsAnswerAt}
use Rattle.ov_peer.specs.Laws.{AsksAreAlong, ExchangesAreTold}
use Rattle.ov_peer.specs.Tells.{IsReplyAt, PeerTells}

-- what is read of a reply is an answer at the history, or says that the disk failed
pub answer_at : (v : Service) (request : Request) (answer : Answer) (reply : List ℕ)
    (made : List SealedUpdate)
    → HasRequestForm request → AreAllBytes reply → answer_of request reply ≡ Ok answer
    → IsReplyAt v (request_bytes request) reply made → IsAnswerAt v request answer made
answer_at v request answer reply made form bytes reads (inl replies) =
    inl (replies_are_read (served v) request reply made answer bytes form replies reads)
answer_at v request answer reply made form bytes reads (inr failed) =
    inr (
      sym (read_alike request reply DeviceFault answer bytes tt failed.spelled reads),
      failed.makes,
      failed.needs,
    )

module _ {P : Type 0} (peer : PeerTells P) where
  pub exchanges_told : ExchangesAreTold peer
  exchanges_told p q request answer v form a is =
      let (others, made, at_it, then) = peer.told p q (request_bytes request) a.reply v a.sent is in
      (others, made, answer_at (later v others) request answer a.reply made form a.bytes a.reads at_it, then)

  pub asks_along : AsksAreAlong peer
  asks_along p q [] v leads is = ([], v, refl, subst (λ r. peer.serves r v) leads is)
  asks_along p q (a ∷ asks) v (m, first, leads) is =
      let (others, made, at_it, then) = peer.told p m a.request a.reply v first is in
      let (histories, last, along, end) = asks_along m q asks (later (later v others) made) leads then in
      (followed v.history others ∷ histories, last, (others, made, refl, at_it, along), end)
