-- Inner: no public contract needs this. How far the sessions of a door are.
use Rattle.std.specs.Prelude.{◌≡◌, ◌<◌, ◌≤◌, ◌+◌, ◌-◌, ◌^◌, ◌⊎◌, ℕ, List, [], ◌∷◌, ◌++◌, All, length, map, max, min}
use Rattle.std.specs.Prelude.{Bool, true, false, Option, Some, None, Ok}
use Rattle.std.specs.List.Sorted.{IsPermutation}
use Rattle.ov_session.specs.Doors.{Doorway, FailsOnce, Given, IsOut, and_one, taken_back}
use Rattle.ov_session.specs.Serving.{OneSession, SaysRose}
use Rattle.ov_turn.specs.Passes.{IsPassOf, PassState, SharedState}
use Rattle.ov_serving.specs.declared.session.Session.{Session}
use Rattle.ov_serving.specs.declared.session.Ended.{Ended}
use Rattle.ov_serving.specs.declared.serving.Next.{Next}
use Rattle.ov_serving.specs.declared.serving.Next.TheVariants as nexts
use Rattle.ov_serving.specs.AtOnce.{IsServed, PassSession}
use Rattle.ov_serving.specs.Spawning.{CountsRefused, Finishes, SpawnerState, Starts}

-- ---- streams by number

-- a stream that the door gave: its session goes on by this pass, or it is over
pub data Place (P S : Type 0) : Type 0 where
  Runs : (stream : S) → (pass : P) → Place P S
  Over : (session : PassSession P S) → Place P S

module _ {P S : Type 0} where
  -- what a door tells of such a stream
  abbrev pub told_of : Place P S → Given S
  told_of (Runs stream pass) = record { stream = stream; back = None }
  told_of (Over s) = record {
    stream = s.session.given;
    back = Some (record { stream = s.session.left; ending = s.session.ending });
  }

  -- the streams that are told, and these
  abbrev pub and_places : Option (List (Given S)) → List (Place P S) → Option (List (Given S))
  and_places None places = None
  and_places (Some streams) places = Some (streams ++ map told_of places)

  -- the sessions that go on, each with its number, where the first place has this one
  abbrev pub going : ℕ → List (Place P S) → List (ℕ × S × P)
  going number [] = []
  going number (Runs stream pass ∷ more) = (number, stream, pass) ∷ going (number + 1) more
  going number (Over s ∷ more) = going (number + 1) more

  -- of these passes those are free that no session has which goes on
  abbrev pub LeavesFree : OneSession P S → List P → List (Place P S) → List P → Type 0
  LeavesFree one passes [] free = IsPermutation passes free
  LeavesFree one passes (Runs stream pass ∷ more) free =
      (others : List P) × IsPermutation passes (pass ∷ others)
      × LeavesFree one others more free
  LeavesFree one passes (Over s ∷ more) free =
      (others : List P) × IsPermutation passes (s.before ∷ others) × IsServed one s
      × LeavesFree one (s.after ∷ others) more free

-- ---- what stands between two steps

module _ {L V G : Type 0} where
  -- what a started session was made of
  abbrev pub parts : Session L V G → ℕ × L × PassState V
  parts s = (s.number, s.stream, s.pass)

  -- This many streams were given. The started sessions are those that go on, and the other passes
  -- are free; each pass is of the shared value.
  pub record Stands (one : OneSession (PassState V) L) (shared : SharedState V)
      (passes free : List (PassState V)) (old new : Doorway L) (spawner : SpawnerState L V G)
      (served : ℕ) : Type 0 where
    pub places : List (Place (PassState V) L)
    pub number : served ≡ length places
    pub shows : new ≡ record old {
      told = and_places old.told places;
      given = served;
      closed = new.closed;
      faults = new.faults;
    }
    pub running : map parts spawner.started ≡ going 0 places
    pub leaves : LeavesFree one passes places free
    pub own_free : All (IsPassOf shared) free
    pub own_running : All (λ s. IsPassOf shared s.pass) spawner.started
    pub all : length spawner.started + length free ≡ length passes
    pub within : length spawner.started ≤ spawner.most

  -- The spawner never had more sessions than there are passes. Where the caller ran none itself
  -- there were once as many, or none was finished yet.
  pub record IsBusy (old new : SpawnerState L V G) (passes served alone : ℕ) : Type 0 where
    pub bounded : new.most ≤ max old.most passes
    pub full : alone ≡ 0 → (passes ≤ new.most) ⊎ (served ≡ length new.started)
    pub counted : alone ≤ served
    pub refuses : CountsRefused old.refused new.refused alone

-- ---- steps

-- the door gave this stream
abbrev pub gave : {L : Type 0} → Doorway L → L → Doorway L
gave d stream = record d { told = and_one d.told stream; given = d.given + 1 }

-- what is left of a session came back: the door took the stream, and the pass is free
pub record ComesBack {L V : Type 0} (ended : Ended L V) (old new : Doorway L)
    (free freed : List (PassState V)) : Type 0 where
  pub shows : new ≡ taken_back old ended.number ended.stream ended.ending
  pub frees : freed ≡ free ++ ended.pass ∷ []

module _ {L V G : Type 0} where
  -- the started sessions are out of the door
  abbrev pub AreOut : Doorway L → List (Session L V G) → Type 0
  AreOut d [] = Unit {0}
  AreOut d (s ∷ more) = IsOut d s.number × AreOut d more

  -- one of the started sessions was finished, or there was none
  abbrev pub EndsOne : OneSession (PassState V) L → (before after : SpawnerState L V G)
      → (old new : Doorway L) → (free freed : List (PassState V)) → Bool → Type 0
  EndsOne one before after old new free freed true =
      (e : Ended L V) × Finishes one before (Some e) after × ComesBack e old new free freed
  EndsOne one before after old new free freed false =
      (before.started ≡ []) × (after ≡ before) × (new ≡ old) × (freed ≡ free)

  -- a pass was free, or one of the started sessions was finished
  abbrev pub FreesOne : OneSession (PassState V) L → (before after : SpawnerState L V G)
      → (old new : Doorway L) → (free freed : List (PassState V)) → Type 0
  FreesOne one before after old new free freed =
      ((0 < length free) × (after ≡ before) × (new ≡ old) × (freed ≡ free))
      ⊎ ((ended : Bool) × (free ≡ []) × EndsOne one before after old new free freed ended)

  -- the session of a stream was started, or it was served here
  abbrev pub Begins : OneSession (PassState V) L → ℕ → L → PassState V
      → (before after : SpawnerState L V G) → Option (Ended L V) → Type 0
  Begins one number stream pass before after None =
      (s : Session L V G) × (parts s ≡ (number, stream, pass)) × Starts before s (Ok tt) after
  Begins one number stream pass before after (Some e) =
      (e.number ≡ number) × one pass e.pass stream e.stream e.ending
      × (after ≡ record before { refused = min (before.refused + 1) (2 ^ 64 - 1) })

  -- the session was started, or it was served here and what is left of it came back
  abbrev pub Settles : OneSession (PassState V) L → ℕ → L → PassState V
      → (before after : SpawnerState L V G) → (old new : Doorway L)
      → (free freed : List (PassState V)) → (alone now : ℕ) → Type 0
  Settles one number stream pass before after old new free freed alone now =
      (Begins one number stream pass before after None
      × (new ≡ old) × (freed ≡ free) × (now ≡ alone))
      ⊎ ((e : Ended L V) × Begins one number stream pass before after (Some e)
      × ComesBack e old new free freed × (now ≡ alone + 1))

  -- what becomes of the door's next stream, which a free pass serves
  abbrev pub TakesNext : OneSession (PassState V) L → ℕ → (before after : SpawnerState L V G)
      → (old new : Doorway L) → (free freed : List (PassState V)) → (alone now : ℕ) → Next
      → Type 0
  TakesNext one number before after old new free freed alone now nexts.Served =
      (stream : L) × (pass : PassState V) × (others : List (PassState V))
      × (free ≡ others ++ pass ∷ [])
      × Settles one number stream pass before after (gave old stream) new others freed alone now
  TakesNext one number before after old new free freed alone now nexts.Closed =
      (after ≡ before) × (new ≡ record old { closed = true }) × (freed ≡ free) × (now ≡ alone)
  TakesNext one number before after old new free freed alone now nexts.Failed =
      (after ≡ before) × FailsOnce old new × (freed ≡ free) × (now ≡ alone)

  -- So many streams came so far, and the door didn't fail.
  pub record GoesOn (one : OneSession (PassState V) L) (shared : SharedState V)
      (passes free : List (PassState V)) (old new : Doorway L) (before after : SpawnerState L V G)
      (served alone : ℕ) : Type 0 where
    pub stands : Stands one shared passes free old new after served
    pub busy : IsBusy before after (length passes) served alone
    pub calm : new.faults ≡ old.faults

  -- All streams that were wanted came, or the door has no more, or it failed; the sessions that
  -- were started may go on.
  pub record HasServed (one : OneSession (PassState V) L) (shared : SharedState V)
      (passes free : List (PassState V)) (old new : Doorway L) (before after : SpawnerState L V G)
      (wanted served alone : ℕ) (failed : Bool) : Type 0 where
    pub stands : Stands one shared passes free old new after served
    pub bounded : after.most ≤ max before.most (length passes)
    pub at_once : alone ≡ 0 → min served (length passes) ≤ after.most
    pub counted : alone ≤ served
    pub refuses : CountsRefused before.refused after.refused alone
    pub most : served ≤ wanted
    pub fewer : served < wanted → (new.closed ≡ true) ⊎ (failed ≡ true)
    pub says : SaysRose old.faults new.faults failed
