-- The sink of a traced peer stays lent as it was.
use Rattle.std.proofs.Common.{◌≡◌, ◌∙◌, ℕ, List, [], ◌∷◌, Option, Some, None, Result, ap, sym, inl, inr}
use Rattle.ov_wire.specs.declared.request.Request.{Request}
use Rattle.ov_wire.specs.declared.answer.Answer.{Answer}
use Rattle.ov_wire.specs.Requests.{request_bytes}
use Rattle.ov_peer.specs.Asks.{AreAsks, Ask, EndsAt, Leads}
use Rattle.ov_peer.specs.Tells.{PeerTells}
use Rattle.ov_owner.specs.Questions.{AsksOnce}
use Rattle.ov_owner.specs.declared.fault.OwnerFault.{OwnerFault}

module _ {P : Type 0} (peer : PeerTells P) (loan : P → ℕ)
    (asks : (p q : P) (request reply : List ℕ) → peer.asked p request reply q → loan q ≡ loan p)
    (fails : (p q : P) (request : List ℕ) → peer.failed p request q → loan q ≡ loan p) where
  leads_keep : (list : List Ask) (p q : P) → Leads peer p list q → loan q ≡ loan p
  leads_keep [] p q same = ap loan (sym same)
  leads_keep (a ∷ list) p q (m, first, leads) =
      leads_keep list m q leads ∙ asks p m a.request a.reply first

  ends_keep : (o : Option (List ℕ)) (p q : P) → EndsAt peer p o q → loan q ≡ loan p
  ends_keep None p q same = ap loan (sym same)
  ends_keep (Some request) p q fault = fails p q request fault

  -- through a list of asks
  pub asks_keep : (list : List Ask) (o : Option (List ℕ)) (p q : P)
      → AreAsks peer p list o q → loan q ≡ loan p
  asks_keep list o p q (m, leads, ends) = ends_keep o m q ends ∙ leads_keep list p m leads

  -- one question keeps the loan
  pub once_keeps : {T : Type 0} (request : Request) (take : Answer → Result T OwnerFault)
      (result : Result T OwnerFault) (p q : P) → AsksOnce peer p q request take result
      → loan q ≡ loan p
  once_keeps request take result p q (inl (read, answered, is)) =
      asks p q (request_bytes request) answered.reply answered.sent
  once_keeps request take result p q (inr (inl (link, fault))) = fails p q (request_bytes request) fault
  once_keeps request take result p q (inr (inr (memory, inl same))) = ap loan same
  once_keeps request take result p q (inr (inr (memory, inr (inl fault)))) =
      fails p q (request_bytes request) fault
  once_keeps request take result p q (inr (inr (memory, inr (inr (reply, told))))) =
      asks p q (request_bytes request) reply told
