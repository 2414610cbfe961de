-- The calls of a pass leave it a pass of the same value.
use Rattle.std.proofs.Common.{◌≡◌, ◌∙◌, ℕ, List, [], ◌∷◌, ◌++◌, Some, None, inl, inr, sym, ap}
use Rattle.std.specs.Prelude.{Option}
use Rattle.ov_peer.specs.Tells.{AnswererTells}
use Rattle.ov_session.specs.declared.end.SessionEnd.{SessionEnd}
use Rattle.ov_session.specs.declared.end.SessionEnd.TheVariants as ends
use Rattle.ov_session.specs.Ends.{Serves}
use Rattle.ov_session.specs.Exchanges.{Exchange, Leads}
use Rattle.ov_session.specs.Links.{Link}
use Rattle.ov_session.specs.Tells.{AskerTells}
use Rattle.ov_turn.specs.Passes.{PassState}
use Rattle.ov_serving.specs.Calls.{CallsOnce, TakesTurn, in_turns}
use Rattle.ov_serving.specs.Sessions.{IsOfSame}

-- whatever a session did, its exchanges lead from one asker to the other
leads_of : {A : Type 0} (tells : AskerTells A) (a b : A) (old new : Link) (ending : SessionEnd)
    → Serves tells a b old new ending → (es : List Exchange) × Leads tells a es b
leads_of tells a b old new ends.End s = (s.all.exchanges, s.all.asked.asked)
leads_of tells a b old new (ends.Bad place) (inl s) = (s.all.exchanges, s.all.asked.asked)
leads_of tells a b old new (ends.Bad place) (inr s) = (s.all.exchanges, s.all.asked.asked)
leads_of tells a b old new ends.LinkFault (inl s) = (s.all.exchanges, s.all.asked.asked)
leads_of tells a b old new ends.LinkFault (inr s) = (s.before ++ s.last ∷ [], s.asked.asked)
leads_of tells a b old new ends.Spent s = (s.exchanges, s.asked.asked)
leads_of tells a b old new ends.Memory s = (s.all.exchanges, s.all.asked.asked)

module _ {V : Type 0} (answerer : AnswererTells V) where
  pub turn_same : (start : V) (p : PassState V) (request : List ℕ) (reply : Option (List ℕ))
      (q : PassState V) → TakesTurn answerer start p request reply q → IsOfSame p q
  turn_same start p request (Some reply) q (log, goes, replies, refuses, is) =
      (ap (λ (x : PassState V). x.table) is, ap (λ (x : PassState V). x.start) is)
  turn_same start p request None q (log, goes, is) =
      (ap (λ (x : PassState V). x.table) is, ap (λ (x : PassState V). x.start) is)

  calls_same : (p q : PassState V) (es : List Exchange) → Leads (in_turns answerer) p es q
      → IsOfSame p q
  calls_same p q [] same =
      (ap (λ (x : PassState V). x.table) (sym same), ap (λ (x : PassState V). x.start) (sym same))
  calls_same p q (e ∷ es) (m, (start, is, turn), more) =
      let first = turn_same start p e.request e.reply m turn in
      let rest = calls_same m q es more in
      (rest.0 ∙ first.0, rest.1 ∙ first.1)

  -- a session leaves its pass one of the same value
  pub serves_same : (p q : PassState V) (old new : Link) (ending : SessionEnd)
      → Serves (in_turns answerer) p q old new ending → IsOfSame p q
  serves_same p q old new ending s =
      let led = leads_of (in_turns answerer) p q old new ending s in calls_same p q led.0 led.1
