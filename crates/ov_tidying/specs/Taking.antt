-- Inner: no public contract needs this. That some first updates of a store were taken.
use Rattle.std.specs.Prelude.{◌+◌, ℕ, List, take}
use Rattle.ov_disk.specs.Disk.{Told}
use Rattle.ov_disk.specs.Tells.{DiskTells}
use Rattle.ov_history.specs.Sealed.{SealedHistory, outer_of}
use Rattle.ov_history.specs.Texts.{brief_of}
use Rattle.ov_store.specs.Opened.{Opened, Serves}
use Rattle.ov_store.specs.Owners.{with_first}
use Rattle.ov_thinning.specs.Notes.{HasTaken, Thinning}
use Rattle.ov_thinning.specs.Thin.{AreThinned}

-- the first so many updates of this history were taken
abbrev pub HasTakenFirst : List ℕ → SealedHistory → ℕ → Thinning → Type 0
HasTakenFirst master g n t = HasTaken master (brief_of (with_first g (take n g.updates))) t

-- where the disk tells its bytes, so of some history for which the store stands
abbrev pub TakesOne : {D : Type 0} → DiskTells D → Opened D → ℕ → Thinning → Type 0
TakesOne tells s n t =
    Told (tells.reads s.disk) (λ _.
    (g : SealedHistory) × Serves tells g s × HasTakenFirst s.keys.surface g n t)

-- so of each history for which the store stands
abbrev pub TakesEach : {D : Type 0} → DiskTells D → Opened D → ℕ → Thinning → Type 0
TakesEach tells s n t =
    (g : SealedHistory) → Serves tells g s
    → Told (tells.reads s.disk) (λ _. HasTakenFirst s.keys.surface g n t)

-- what was taken of a history for which the store stands is taken with one update more
abbrev pub TakesNext : {D : Type 0} → DiskTells D → Opened D → ℕ → Thinning → Thinning → Type 0
TakesNext tells s n t next =
    (g : SealedHistory) → Serves tells g s → Told (tells.reads s.disk) (λ _.
    HasTakenFirst s.keys.surface g n t → HasTakenFirst s.keys.surface g (n + 1) next)

-- where the disk tells its bytes, these places are kept of each history for which the store stands
abbrev pub KeepsPlaces : {D : Type 0} → DiskTells D → Opened D → List ℕ → Type 0
KeepsPlaces tells s kept =
    (g : SealedHistory) → Serves tells g s
    → Told (tells.reads s.disk) (λ _. AreThinned (outer_of g) kept)
