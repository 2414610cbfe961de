-- What the disk of a server keeps while it answers.
use Rattle.std.specs.Prelude.{◌≡◌, ◌≤◌, ◌⊎◌, ℕ, List, [], ◌∷◌, ◌++◌}
use Rattle.std.specs.Prelude.{Bool, true, false, Some}
use Rattle.ov_base.specs.Causes.{Rose}
use Rattle.ov_base.specs.declared.mode.Mode.{Mode}
use Rattle.ov_record.specs.Updates.{SealedUpdate}
use Rattle.ov_history.specs.Sealed.{SealedHistory}
use Rattle.ov_disk.specs.Disk.{Image, Only, Told}
use Rattle.ov_disk.specs.Moments.{LeavesOnly}
use Rattle.ov_disk.specs.Tells.{DiskTells}
use Rattle.ov_images.specs.Images.{IsImageOf, Keeps, Keys}
use Rattle.ov_protocol.specs.Serving.{followed}
use Rattle.ov_protocol.specs.Updating.{updates_of}
use Rattle.ov_peer.specs.Tells.{AnswererTells}
use Rattle.ov_store.specs.Beginning.{IsBegun, LeavesHistory}
use Rattle.ov_store.specs.Opened.{Opened, Serves}
use Rattle.ov_server.specs.Answering.{serving_of}
use Rattle.ov_server.specs.Following.{Reaches, RepliesAfter}

-- the image keeps the history with these updates; or, once the disk failed in an update, with these
-- and one more
abbrev pub KeepsAll : Keys → SealedHistory → List SealedUpdate → Bool → Image → Type 0
KeepsAll k g updates failed i =
    Keeps k (followed g updates) i
    ⊎ ((failed ≡ true) × ((u : SealedUpdate) × Keeps k (followed g (updates ++ u ∷ [])) i))

-- the image keeps the history with some first ones of these updates
abbrev pub KeepsFirst : Keys → SealedHistory → List SealedUpdate → Image → Type 0
KeepsFirst k g updates i =
    (first : List SealedUpdate) × ((more : List SealedUpdate) × (updates ≡ first ++ more))
    × Keeps k (followed g first) i

-- the image keeps the history with some first ones of these updates, or with all of them and the
-- one in which the disk failed
abbrev pub KeepsSome : Keys → SealedHistory → List SealedUpdate → Bool → Image → Type 0
KeepsSome k g updates failed i = KeepsFirst k g updates i ⊎ KeepsAll k g updates failed i

module _ {D : Type 0} (tells : DiskTells D) where
  -- These updates lead from one store, which stands for the history, to another. A crash at any
  -- moment between them leaves the history with some first ones of them, and a crash now leaves it
  -- with all of them; or, once the disk failed in an update, with one more. Until then the store
  -- stands for it with all of them. The disk tells its bytes.
  pub record Endures (g : SealedHistory) (updates : List SealedUpdate) (start now : Opened D)
      : Type 0 where
    pub any_moment : LeavesOnly tells start.disk now.disk
        (KeepsSome start.keys g updates now.failed)
    pub at_end : (c : Image) → tells.may_leave now.disk c
        → KeepsAll start.keys g updates now.failed c
    pub goes_on : now.failed ≡ false → Serves tells (followed g updates) now
    pub told : (i : Image) × (tells.reads now.disk ≡ Some i)

  -- From one store the updates with these spellings lead to another: what is served goes on by
  -- them, the keys and the disk's loan stay, and, where the disk tells its bytes and hadn't failed,
  -- it endures. The disk failed in an update only where its count of faults rose.
  pub record StoreGoesOn (start : Opened D) (list : List (List ℕ)) (now : Opened D) : Type 0 where
    pub reaches : Reaches (serving_of start) list (serving_of now)
    pub keys : now.keys ≡ start.keys
    pub same : tells.borrow now.disk ≡ tells.borrow start.disk
    pub later : tells.faults start.disk ≤ tells.faults now.disk
    pub cause : start.failed ≡ false → now.failed ≡ true
        → Rose (tells.faults start.disk) (tells.faults now.disk)
    pub endures : (g : SealedHistory) → Serves tells g start → start.failed ≡ false
        → Told (tells.reads start.disk) (λ _. Endures g (updates_of list) start now)

  -- What a stop leaves of updates that were made behind a history for which a disk stood. At any
  -- moment it leaves this history, or it with some first ones of them; and now it with all of them;
  -- or, once the disk failed in an update, with one more.
  pub record Survives (k : Keys) (g : SealedHistory) (updates : List SealedUpdate) (failed : Bool)
      (first last : D) : Type 0 where
    pub any_moment : LeavesOnly tells first last
        (λ c. IsImageOf k g c ⊎ KeepsSome k g updates failed c)
    pub at_end : (c : Image) → tells.may_leave last c → KeepsAll k g updates failed c

  -- where a store was begun on a disk that had nothing pending and whose image stood for a history,
  -- and went on by some updates, the history survives with them
  abbrev pub StoresSurvive : Type 0
  StoresSurvive =
      (k : Keys) (mode : Mode) (disk : D) (s last : Opened D) (list : List (List ℕ))
      → IsBegun tells k mode (tells.reads disk) s
      → LeavesHistory tells k mode disk s.disk
      → StoreGoesOn s list last
      → Told (tells.reads disk) (λ i. Only i (tells.may_leave disk) → (g : SealedHistory)
      → g.mode ≡ mode → IsImageOf k g i
      → Survives k g (updates_of list) last.failed disk last.disk)

-- What a server over a store tells: how its store and its disk went on, and what it replies by that.
-- It accepts no more once its disk failed in an update.
abbrev pub store_tells : {D : Type 0} → DiskTells D → AnswererTells (Opened D)
store_tells tells = record {
  reached = λ start list now. StoreGoesOn tells start list now;
  replies = λ start list request reply. RepliesAfter (serving_of start) list request reply;
  epoch_of = λ s. s.catalogue.epoch;
  stuck = λ s. s.failed ≡ true;
}
