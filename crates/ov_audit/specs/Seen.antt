-- An audit as a value.
use Rattle.std.specs.Prelude.{ℕ, ◌≡◌, ◌+◌, Bool, List}
use Rattle.ov_exposure.specs.Auditing.{AreMembers, AreNext, MayFollow, Note}
use Rattle.ov_history.specs.Catalogue.{Catalogue}

-- the set of the users whom it is about, whether the server helps them, the epoch that was seen
-- last, and what was noted of each file, by number
pub record Seen : Type 0 where
  pub users : ℕ
  pub server : Bool
  pub epoch : ℕ
  pub notes : List Note

-- the state may be the next that is looked at: it has the next epoch, each file that was noted, and
-- at most one more
abbrev pub IsNext : Seen → Catalogue → Type 0
IsNext seen c = (c.epoch ≡ seen.epoch + 1) × MayFollow seen.notes c

-- The state was looked at: its epoch is the last, and the notes are the next ones, for every list
-- that has just the users of the set.
abbrev pub SeesNext : Seen → Catalogue → Seen → Type 0
SeesNext old c new =
    (new.users ≡ old.users) × (new.server ≡ old.server) × (new.epoch ≡ c.epoch)
    × ((users : List ℕ) → AreMembers users old.users → AreNext users c old.notes new.notes)
