-- Inner: no public contract needs this. What becomes of a door's next stream.
use Rattle.std.specs.Prelude.{◌≡◌, ◌+◌, ℕ, List, [], ◌∷◌, length, true, Option, Some, None}
use Rattle.ov_base.specs.Causes.{Rose}
use Rattle.ov_session.specs.declared.each.Next.{Next}
use Rattle.ov_session.specs.declared.each.Next.TheVariants as nexts
use Rattle.ov_session.specs.Doors.{Doorway, Given}
use Rattle.ov_session.specs.Serving.{Follows, OneSession, Session, and_all}

-- the streams aren't told, or there are this many
abbrev pub TellsMany : {S : Type 0} → Option (List (Given S)) → ℕ → Type 0
TellsMany None number = Unit {0}
TellsMany (Some streams) number = length streams ≡ number

-- the door has given this many streams
pub record IsAt {S : Type 0} (d : Doorway S) (number : ℕ) : Type 0 where
  pub given : d.given ≡ number
  pub told : TellsMany d.told number

-- a stream was given, its session was served, and it was taken back
pub record ServesIt {V S : Type 0} (one : OneSession V S) (v w : V) (old new : Doorway S)
    : Type 0 where
  pub session : Session S
  pub served : one v w session.given session.left session.ending
  pub shows : new ≡ record old { told = and_all old.told (session ∷ []); given = old.given + 1 }

-- what becomes of the next stream
abbrev pub ServesNext : {V S : Type 0} → OneSession V S → V → V → Doorway S → Doorway S → Next
    → Type 0
ServesNext one v w old new nexts.Served = ServesIt one v w old new
ServesNext one v w old new nexts.Closed = (w ≡ v) × (new ≡ record old { closed = true })
ServesNext one v w old new nexts.Failed =
    (w ≡ v) × (new ≡ record old { faults = new.faults }) × Rose old.faults new.faults

-- this many sessions were served up to here, and the door may have more
pub record ServesSome {V S : Type 0} (one : OneSession V S) (v w : V) (old new : Doorway S)
    (number : ℕ) : Type 0 where
  pub sessions : List (Session S)
  pub follows : Follows one v sessions w
  pub count : number ≡ length sessions
  pub shows : new ≡ record old { told = and_all old.told sessions; given = old.given + number }
  pub is_at : IsAt new number
