-- Inner: no public contract needs this. That an audit and a catalogue have followed a history.
use Rattle.std.specs.Prelude.{ℕ, ◌+◌, ◌≡◌, Bool, List, take}
use Rattle.ov_audit.specs.Seen.{Seen}
use Rattle.ov_auditing.specs.Exposed.{AreFindings}
use Rattle.ov_disk.specs.Disk.{Told}
use Rattle.ov_disk.specs.Tells.{DiskTells}
use Rattle.ov_exposure.specs.Auditing.{AreMembers, Finding, HasSeen}
use Rattle.ov_exposure.specs.Exposure.{AreUsers}
use Rattle.ov_history.specs.Catalogue.{Catalogue}
use Rattle.ov_history.specs.Sealed.{SealedHistory, StandsFor}
use Rattle.ov_store.specs.Opened.{Opened, Serves}
use Rattle.ov_store.specs.Owners.{with_first}

-- ---- one update after the other

-- the catalogue is that after the history, and the audit has seen the history, whatever list it is
-- that has just the users of its set
pub record HasFollowed (master : List ℕ) (g : SealedHistory) (c : Catalogue) (seen : Seen)
    : Type 0 where
  pub stands : StandsFor master c g
  pub epoch : seen.epoch ≡ c.epoch
  pub seen_all : (users : List ℕ) → AreMembers users seen.users → HasSeen g users seen.notes

-- they have followed some history
abbrev pub FollowsAny : List ℕ → Catalogue → Seen → Type 0
FollowsAny master c seen = (g : SealedHistory) × HasFollowed master g c seen

-- they have followed the first so many updates of this history
abbrev pub FollowsFirst : List ℕ → SealedHistory → ℕ → Catalogue → Seen → Type 0
FollowsFirst master g n c seen = HasFollowed master (with_first g (take n g.updates)) c seen

-- Where the disk tells its bytes, they have followed the first so many updates of some history for
-- which the store stands.
abbrev pub FollowsOne : {D : Type 0} → DiskTells D → Opened D → ℕ → Catalogue → Seen → Type 0
FollowsOne tells s n c seen =
    Told (tells.reads s.disk) (λ _.
    (g : SealedHistory) × Serves tells g s × FollowsFirst s.keys.surface g n c seen)

-- so for each history for which the store stands
abbrev pub FollowsEach : {D : Type 0} → DiskTells D → Opened D → ℕ → Catalogue → Seen → Type 0
FollowsEach tells s n c seen =
    (g : SealedHistory) → Serves tells g s
    → Told (tells.reads s.disk) (λ _. FollowsFirst s.keys.surface g n c seen)

-- What was followed of a history for which the store stands is followed by one update more.
abbrev pub FollowsNext : {D : Type 0} → DiskTells D → Opened D → ℕ → Catalogue → Seen → Catalogue
    → Seen → Type 0
FollowsNext tells s n c seen next later =
    (g : SealedHistory) → Serves tells g s → Told (tells.reads s.disk) (λ _.
    FollowsFirst s.keys.surface g n c seen → FollowsFirst s.keys.surface g (n + 1) next later)

-- Where the disk tells its bytes, these findings are exact of each history for which the store
-- stands and each list that has just the users of the set.
abbrev pub FindsAll : {D : Type 0} → DiskTells D → Opened D → ℕ → Bool → List Finding → Type 0
FindsAll tells s set server findings =
    (g : SealedHistory) → Serves tells g s → Told (tells.reads s.disk) (λ _.
    (users : List ℕ) → AreMembers users set → AreUsers g users
    → AreFindings server s.keys.surface g users findings)
