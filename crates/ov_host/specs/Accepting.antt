-- The updates that sessions accepted.
use Rattle.std.specs.Prelude.{ℕ, List, [], ◌∷◌, ◌++◌}
use Rattle.ov_io.specs.Tells.{SinkTells, SourceTells}
use Rattle.ov_peer.specs.Tells.{AnswererTells}
use Rattle.ov_session.specs.Alone.{alone, spellings_after}
use Rattle.ov_session.specs.Exchanges.{Exchange}
use Rattle.ov_session.specs.Links.{link}
use Rattle.ov_session.specs.Serving.{Follows, Session, serves_alone}
use Rattle.ov_serving.specs.Accepted.{exchanges_of}

-- the spellings so far, and those of the updates that these exchanges accepted
abbrev pub and_accepted : List (List ℕ) → List Exchange → List (List ℕ)
and_accepted list [] = list
and_accepted list (e ∷ more) = and_accepted (spellings_after list e.request e.reply) more

module _ {V S : Type 0} (answerer : AnswererTells V) (source : SourceTells S)
    (sink : SinkTells S) where
  -- the spellings so far, and those of the updates that the exchanges of these sessions accepted
  abbrev pub accepted_in : (v : V) (sessions : List (Session S)) (w : V) → List (List ℕ)
      → Follows (serves_alone answerer source sink) v sessions w → List (List ℕ)
  accepted_in v [] w list done = list
  accepted_in v (s ∷ more) w list (m, served, rest) =
      accepted_in m more w
      (and_accepted list
      (exchanges_of (alone answerer) v m (link source sink s.given) (link source sink s.left)
      s.ending served))
      rest
