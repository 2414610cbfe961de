-- What a value is reached by behind sessions is what their exchanges accepted.
use Rattle.std.proofs.Common.{ℕ, List, [], ◌∷◌, subst}
use Rattle.ov_io.specs.Tells.{SinkTells, SourceTells}
use Rattle.ov_peer.specs.Tells.{AnswererTells}
use Rattle.ov_session.specs.Alone.{alone, spellings_after}
use Rattle.ov_session.specs.Exchanges.{Exchange, Leads}
use Rattle.ov_session.specs.Links.{link}
use Rattle.ov_session.specs.Serving.{Follows, Session, serves_alone}
use Rattle.ov_serving.specs.Accepted.{exchanges_of}
use Rattle.ov_serving.proofs.Owning.{asked_of}
use Rattle.ov_host.specs.Accepting.{accepted_in, and_accepted}

module _ {V S : Type 0} (answerer : AnswererTells V) (source : SourceTells S) (sink : SinkTells S) (start : V) where
  leads_reach : (a b : V) (list : List (List ℕ)) (exchanges : List Exchange) → answerer.reached start list a → Leads (alone answerer) a exchanges b
      → answerer.reached start (and_accepted list exchanges) b
  leads_reach a b list [] here same = subst (answerer.reached start list) same here
  leads_reach a b list (e ∷ more) here (m, one, rest) =
      leads_reach m b (spellings_after list e.request e.reply) more (one.0 start list here).1 rest

  pub sessions_reach : (v : V) (sessions : List (Session S)) (w : V) (list : List (List ℕ)) → answerer.reached start list v
      → (f : Follows (serves_alone answerer source sink) v sessions w)
      → answerer.reached start (accepted_in answerer source sink v sessions w list f) w
  sessions_reach v [] w list here done = subst (answerer.reached start list) done here
  sessions_reach v (s ∷ more) w list here (m, served, rest) =
      let session = link source sink in
      sessions_reach m more w
      (and_accepted list (exchanges_of (alone answerer) v m (session s.given) (session s.left) s.ending served))
      (leads_reach v m list
      (exchanges_of (alone answerer) v m (session s.given) (session s.left) s.ending served) here
      (asked_of (alone answerer) v m (session s.given) (session s.left) s.ending served))
      rest
