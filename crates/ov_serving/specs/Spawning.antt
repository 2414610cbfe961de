-- What a spawner shows, and what each call does to it.
use Rattle.std.specs.Prelude.{◌≡◌, ◌<◌, ℕ, ◌+◌, ◌-◌, ◌^◌, List, [], ◌∷◌, ◌++◌, length, max, min}
use Rattle.std.specs.Prelude.{Bool, Option, Some, None, Result, Ok, Err}
use Rattle.ov_session.specs.Serving.{OneSession}
use Rattle.ov_turn.specs.Passes.{PassState}
use Rattle.ov_serving.specs.declared.session.Session.{Session}
use Rattle.ov_serving.specs.declared.session.Ended.{Ended}
use Rattle.ov_serving.specs.Sessions.{EndsAs}

-- The sessions that were started and aren't finished, in the order in which they were started; the
-- most that there ever were of these; how many sessions weren't started, a number that stays at
-- 18,446,744,073,709,551,615; and whether every start is refused.
pub record SpawnerState (L V G : Type 0) : Type 0 where
  pub started : List (Session L V G)
  pub most : ℕ
  pub refused : ℕ
  pub refuses : Bool

-- so many sessions weren't started, and were counted
pub record CountsRefused (before now alone : ℕ) : Type 0 where
  pub none : alone ≡ 0 → now ≡ before
  pub some : 0 < alone → now ≡ min (before + alone) (2 ^ 64 - 1)

module _ {L V G : Type 0} where
  -- the session was started behind the others, or it came back and that was counted
  abbrev pub Starts : SpawnerState L V G → Session L V G → Result (Unit {0}) (Session L V G)
      → SpawnerState L V G → Type 0
  Starts old s (Ok done) new =
      new ≡ record old {
        started = old.started ++ s ∷ [];
        most = max old.most (length old.started + 1);
      }
  Starts old s (Err back) new =
      (back ≡ s) × (new ≡ record old { refused = min (old.refused + 1) (2 ^ 64 - 1) })

  -- one of the started sessions ended so, and the others stay; or there was none
  abbrev pub Finishes : OneSession (PassState V) L → SpawnerState L V G → Option (Ended L V)
      → SpawnerState L V G → Type 0
  Finishes one old (Some e) new =
      (before : List (Session L V G)) × (s : Session L V G) × (after : List (Session L V G))
      × (old.started ≡ before ++ s ∷ after) × EndsAs one s e
      × (new ≡ record old { started = before ++ after })
  Finishes one old None new = (old.started ≡ []) × (new ≡ old)
