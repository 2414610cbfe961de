-- Inner: no public contract needs this. What a spawner keeps of a session.
use Rattle.std.specs.Prelude.{◌≡◌, List, map}
use Rattle.ov_session.specs.Serving.{OneSession}
use Rattle.ov_turn.specs.Passes.{PassState}
use Rattle.ov_serving.specs.declared.session.Session.{Session}
use Rattle.ov_serving.specs.declared.session.Ended.{Ended}
use Rattle.ov_serving.specs.declared.slot.Outcome.{Outcome}
use Rattle.ov_serving.specs.declared.slot.Outcome.TheVariants as outcomes
use Rattle.ov_serving.specs.declared.slot.Slot.{Slot}
use Rattle.ov_serving.specs.declared.slot.Slot.TheVariants as slots
use Rattle.ov_serving.specs.Sessions.{EndsAs, HasOwnPass}

module _ {L V G : Type 0} where
  -- what a thread gives for a session: its end, or the session as it was
  abbrev pub IsOutcomeOf : OneSession (PassState V) L → Session L V G → Outcome L V G → Type 0
  IsOutcomeOf one s (outcomes.Over e) = EndsAs one s e
  IsOutcomeOf one s (outcomes.Back b) = (b ≡ s) × HasOwnPass b

  -- the session of a slot
  abbrev pub session_in : Slot L V G → Session L V G
  session_in (slots.Running handle line) = handle.promise.0.value
  session_in (slots.Done done) = done.0

  -- the sessions of slots, in order
  abbrev pub sessions_in : List (Slot L V G) → List (Session L V G)
  sessions_in slots = map session_in slots
