-- What sessions by passes were told of one list of accepted updates.
use Rattle.std.specs.Prelude.{◌≡◌, ℕ, ◌+◌, true, List, [], ◌∷◌, Option, Some, None}
use Rattle.ov_io.specs.Tells.{SourceTells, SinkTells}
use Rattle.ov_peer.specs.Spellings.{fails_update, says_accepted, spelling_of}
use Rattle.ov_peer.specs.Tells.{AnswererTells}
use Rattle.ov_session.specs.Exchanges.{Exchange}
use Rattle.ov_turn.specs.declared.view.Entry.{Entry}
use Rattle.ov_turn.specs.Logs.{BeginsWith, entry, longer_if, spellings}
use Rattle.ov_turn.specs.Passes.{PassState}
use Rattle.ov_serving.specs.Accepted.{exchanges_in}
use Rattle.ov_serving.specs.AtOnce.{IsServed, LeadsPasses, PassSession}
use Rattle.ov_serving.specs.Sessions.{serves_by_pass}

module _ {V : Type 0} (answerer : AnswererTells V) (start : V) (log : List Entry) where
  -- The reply is the value's after a first part of the list, and where it is an Accepted the list
  -- goes on from there by the update of this call. Where it says that the disk failed in an update
  -- the list ends there: no session's update is accepted after it. Where memory was refused nothing
  -- is told.
  abbrev pub IsTold : ℕ → ℕ → List ℕ → Option (List ℕ) → Type 0
  IsTold number call request None = Unit {0}
  IsTold number call request (Some reply) =
      (first : List Entry) × answerer.replies start (spellings first) request reply
      × BeginsWith log
      (longer_if (says_accepted reply) first (entry number call (spelling_of request)))
      × (fails_update request reply ≡ true → log ≡ first)

  -- so is each of these exchanges of a pass with this number, which has made so many calls before
  abbrev pub AreTold : ℕ → ℕ → List Exchange → Type 0
  AreTold number calls [] = Unit {0}
  AreTold number calls (e ∷ more) =
      IsTold number (calls + 1) e.request e.reply × AreTold number (calls + 1) more

module _ {V S : Type 0} (answerer : AnswererTells V) (start : V) (log : List Entry)
    (source : SourceTells S) (sink : SinkTells S) where
  -- so is each exchange of these sessions
  abbrev pub SessionsAreTold : (passes : List (PassState V))
      (sessions : List (PassSession (PassState V) S)) (after : List (PassState V))
      → LeadsPasses (serves_by_pass answerer source sink) passes sessions after → Type 0
  SessionsAreTold passes [] after moved = Unit {0}
  SessionsAreTold passes (s ∷ more) after (others, moved, served, leads) =
      AreTold answerer start log s.before.knowledge.number s.before.calls
      (exchanges_in answerer source sink s served)
      × SessionsAreTold (s.after ∷ others) more after leads
