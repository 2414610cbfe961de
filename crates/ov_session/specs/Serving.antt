-- Sessions that are served one after the other.
use Rattle.std.specs.Prelude.{◌≡◌, ◌<◌, ◌≤◌, ◌+◌, ◌⊎◌, ℕ, List, [], ◌∷◌, ◌++◌, length, map}
use Rattle.std.specs.Prelude.{Bool, false, true, Option, Some, None}
use Rattle.ov_base.specs.Causes.{Rose}
use Rattle.ov_io.specs.Tells.{SourceTells, SinkTells}
use Rattle.ov_peer.specs.Tells.{AnswererTells}
use Rattle.ov_session.specs.declared.end.SessionEnd.{SessionEnd}
use Rattle.ov_session.specs.Alone.{alone}
use Rattle.ov_session.specs.Doors.{Doorway, Given}
use Rattle.ov_session.specs.Ends.{Serves}
use Rattle.ov_session.specs.Links.{link}

-- a session: its stream as it was given and as it was left, and how it ended
pub record Session (S : Type 0) : Type 0 where
  pub given : S
  pub left : S
  pub ending : SessionEnd

-- what one session does: the value before it and after it, the stream before and after, and the end
abbrev pub OneSession : Type 0 → Type 0 → Type 1
OneSession V S = V → V → S → S → SessionEnd → Type 0

-- a session by an answerer alone, which may ask as often as it wants
abbrev pub serves_alone : {V S : Type 0} → AnswererTells V → SourceTells S → SinkTells S
    → OneSession V S
serves_alone answerer source sink v w given stream ending =
    Serves (alone answerer) v w (link source sink given) (link source sink stream) ending

-- the sessions lead from one value to another
abbrev pub Follows : {V S : Type 0} → OneSession V S → V → List (Session S) → V → Type 0
Follows one v [] w = v ≡ w
Follows {V} one v (s ∷ more) w =
    (m : V) × one v m s.given s.left s.ending × Follows one m more w

-- what a door tells of these sessions: each stream was given and taken back once, as it was left
abbrev pub entries : {S : Type 0} → List (Session S) → List (Given S)
entries sessions =
    map (λ s. record {
      stream = s.given;
      back = Some (record { stream = s.left; ending = s.ending });
    }) sessions

-- the streams that are told, and those of these sessions
abbrev pub and_all : {S : Type 0} → Option (List (Given S)) → List (Session S)
    → Option (List (Given S))
and_all None sessions = None
and_all (Some streams) sessions = Some (streams ++ entries sessions)

-- whether the count rose
abbrev pub SaysRose : ℕ → ℕ → Bool → Type 0
SaysRose before now true = Rose before now
SaysRose before now false = now ≡ before

-- The sessions were served one after the other, each on a stream that the door gave and took back.
-- There are fewer of them than were wanted only where the door has no more, or it failed.
pub record ServesEach {V S : Type 0} (one : OneSession V S) (v w : V) (old new : Doorway S)
    (wanted served : ℕ) (failed : Bool) : Type 0 where
  pub sessions : List (Session S)
  pub follows : Follows one v sessions w
  pub number : served ≡ length sessions
  pub given : new.given ≡ old.given + served
  pub told : new.told ≡ and_all old.told sessions
  pub stays : new.listens_at ≡ old.listens_at
  pub most : served ≤ wanted
  pub fewer : served < wanted → (new.closed ≡ true) ⊎ (failed ≡ true)
  pub says : SaysRose old.faults new.faults failed
