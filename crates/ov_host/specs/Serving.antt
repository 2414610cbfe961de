-- What a server puts, and how it serves its door.
use Rattle.std.specs.Prelude.{◌≡◌, ◌≢◌, ◌⊎◌, ℕ, List, [], ◌∷◌, ◌++◌, codes, length, take}
use Rattle.std.specs.Prelude.{Bool, true, false, Option}
use Rattle.std.specs.Fmt.{decimal}
use Rattle.std.specs.Io.KnownBytes.{Appends}
use Rattle.ov_base.specs.Causes.{Rose}
use Rattle.ov_session.specs.Doors.{Doorway, FailsOnce, IsWhere, listening}
use Rattle.ov_session.specs.Serving.{OneSession}
use Rattle.ov_turn.specs.Passes.{PassState}
use Rattle.ov_serving.specs.AtOnce.{ServesAll, WentAtOnce}
use Rattle.ov_serving.specs.Spawning.{SpawnerState}
use Rattle.ov_report.specs.Ends.{EndsIn, EndsOr}
use Rattle.ov_report.specs.Faults.{memory_line}

-- ---- lines

-- the line that says where a server listens
abbrev pub listening_line : List ℕ → List ℕ
listening_line address = codes "listening " ++ address ++ 10 ∷ []

-- the line that says how many sessions it served
abbrev pub served_line : ℕ → List ℕ
served_line n = codes "served " ++ decimal n ++ 10 ∷ []

-- the line on a door that failed
abbrev pub door_line : List ℕ
door_line = codes "error door" ++ 10 ∷ []

-- the line that says where a server listens can't be put whole, or memory is refused for it
abbrev pub IsUntold : List ℕ → Option (List ℕ) → Option (List ℕ) → ℕ → Type 0
IsUntold address old new status =
    ((status ≡ 6) × ((n : ℕ) × Appends old new (take n (listening_line address))))
    ⊎ EndsIn memory_line 7 old new status

-- ---- serving

-- what is put once the sessions were served: how many, or that the door failed
abbrev pub EndsServing : Bool → ℕ → Option (List ℕ) → Option (List ℕ) → ℕ → Type 0
EndsServing true served old new status = EndsIn door_line 13 old new status
EndsServing false served old new status = EndsOr (served_line served) 0 old new status

module _ {V S G : Type 0} (one : OneSession (PassState V) S) (first last : List (PassState V))
    (old new : Doorway S) (idle done : SpawnerState S V G) (wanted : ℕ)
    (before after : Option (List ℕ)) (status : ℕ) where
  -- At most this many sessions are served by the passes, as many at once as there are passes, and
  -- then the last line is put.
  pub record ServesSessions : Type 0 where
    pub served : ℕ
    pub failed : Bool
    pub alone : ℕ
    pub sessions : ServesAll one first last old new wanted served failed
    pub at_once : WentAtOnce idle done (length first) served alone
    pub ends : EndsServing failed served before after status

  -- The door doesn't listen: no session is served, and the line says so.
  pub record FailsToListen : Type 0 where
    pub same : last ≡ first
    pub spawner : done ≡ idle
    pub door : FailsOnce old new
    pub ends : EndsIn door_line 13 before after status

  -- The door listens, and the program can't say where: no session is served.
  pub record FailsToTell (address : List ℕ) : Type 0 where
    pub same : last ≡ first
    pub spawner : done ≡ idle
    pub door : new ≡ listening old new
    pub ends : IsUntold address before after status

module _ {V S G : Type 0} (one : OneSession (PassState V) S) (first last : List (PassState V))
    (old new : Doorway S) (idle done : SpawnerState S V G) (wanted : ℕ)
    (before after : Option (List ℕ)) (status : ℕ) where
  -- The line that says where the door listens is put, and then sessions are served.
  pub record TellsAndServes (address : List ℕ) : Type 0 where
    pub between : Option (List ℕ)
    pub told : Appends before between (listening_line address)
    pub serves : ServesSessions one first last (listening old new) new idle done wanted between after
        status

  -- what comes of a door that listens at this address
  abbrev pub Tells : List ℕ → Type 0
  Tells address =
      FailsToTell one first last old new idle done wanted before after status address
      ⊎ TellsAndServes address

  -- what comes of a door: it doesn't listen, or it does, at the address that is said, and goes on
  -- listening there
  abbrev pub Serves : Type 0
  Serves =
      FailsToListen one first last old new idle done wanted before after status
      ⊎ ((address : List ℕ) × IsWhere address new × Tells address)

-- The count of the door rose, and the status is 13, or 6 where the line couldn't be put; or it
-- didn't, and the status is another one than 13.
abbrev pub SaysDoor : ℕ → ℕ → ℕ → Type 0
SaysDoor before now status =
    (((status ≡ 13) ⊎ (status ≡ 6)) × Rose before now) ⊎ ((status ≢ 13) × (now ≡ before))
