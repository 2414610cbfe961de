-- Sessions that are served at the same time, each by a pass.
use Rattle.std.specs.Prelude.{◌≡◌, ◌<◌, ◌≤◌, ◌+◌, ◌⊎◌, ℕ, List, [], ◌∷◌, length, map, max, min}
use Rattle.std.specs.Prelude.{Bool, true}
use Rattle.std.specs.List.Sorted.{IsPermutation}
use Rattle.ov_session.specs.Doors.{Doorway}
use Rattle.ov_session.specs.Serving.{OneSession, SaysRose, Session, and_all}
use Rattle.ov_serving.specs.Spawning.{CountsRefused, SpawnerState}

-- a session, and its pass before it and after it
pub record PassSession (P S : Type 0) : Type 0 where
  pub session : Session S
  pub before : P
  pub after : P

-- a session was served so, from the one state of its pass to the other
abbrev pub IsServed : {P S : Type 0} → OneSession P S → PassSession P S → Type 0
IsServed one s = one s.before s.after s.session.given s.session.left s.session.ending

-- The sessions, in the order of their numbers, lead from these passes to those: each is served by
-- one of the passes, which is among them again as the session left it.
abbrev pub LeadsPasses : {P S : Type 0} → OneSession P S → List P → List (PassSession P S)
    → List P → Type 0
LeadsPasses one passes [] after = IsPermutation passes after
LeadsPasses {P} one passes (s ∷ more) after =
    (others : List P) × IsPermutation passes (s.before ∷ others) × IsServed one s
    × LeadsPasses one (s.after ∷ others) more after

-- the sessions without their passes
abbrev pub plain : {P S : Type 0} → List (PassSession P S) → List (Session S)
plain sessions = map (λ s. s.session) sessions

-- Each stream that the door gave was served once, by one of the passes, and taken back as its
-- session left it. There are fewer sessions than were wanted only where the door has no more
-- streams, or it failed.
pub record ServesAll {P S : Type 0} (one : OneSession P S) (before after : List P)
    (old new : Doorway S) (wanted served : ℕ) (failed : Bool) : Type 0 where
  pub sessions : List (PassSession P S)
  pub passes : LeadsPasses one before sessions after
  pub number : served ≡ length sessions
  pub given : new.given ≡ old.given + served
  pub told : new.told ≡ and_all old.told (plain sessions)
  pub stays : new.listens_at ≡ old.listens_at
  pub most : served ≤ wanted
  pub fewer : served < wanted → (new.closed ≡ true) ⊎ (failed ≡ true)
  pub says : SaysRose old.faults new.faults failed

-- All sessions that were started are finished. There were never more of them at once than passes,
-- and where the caller ran none itself there were once as many as passes, or as were served. The
-- spawner counted those that the caller ran.
pub record WentAtOnce {L V G : Type 0} (old new : SpawnerState L V G) (passes served alone : ℕ)
    : Type 0 where
  pub finished : new.started ≡ []
  pub bounded : new.most ≤ max old.most passes
  pub at_once : alone ≡ 0 → min served passes ≤ new.most
  pub counted : alone ≤ served
  pub refuses : CountsRefused old.refused new.refused alone
