-- What a server does from its beginning to its last line.
use Rattle.std.specs.Prelude.{◌≡◌, ◌⊎◌, ℕ, List, true, false, Option, Result, Ok, Err, IfErr, IfOk}
use Rattle.ov_base.specs.declared.mode.Mode.{Mode}
use Rattle.ov_disk.specs.Calls.{IsDiskCall}
use Rattle.ov_disk.specs.Disk.{Only, Told}
use Rattle.ov_disk.specs.Moments.{IsUntouched}
use Rattle.ov_disk.specs.Tells.{DiskTells}
use Rattle.ov_io.specs.Tells.{SinkTells, SourceTells}
use Rattle.ov_history.specs.Sealed.{SealedHistory}
use Rattle.ov_images.specs.Images.{IsImageOf, Keys}
use Rattle.ov_protocol.specs.Updating.{updates_of}
use Rattle.ov_session.specs.Doors.{Doorway}
use Rattle.ov_serving.specs.Spawning.{SpawnerState}
use Rattle.ov_store.specs.Beginning.{IsBeginFault, IsBegun, IsDiskFault, LeavesHistory}
use Rattle.ov_store.specs.Beginning.{WritesNoBorn, disk_left}
use Rattle.ov_store.specs.Opened.{Opened}
use Rattle.ov_store.specs.declared.begin.BeginRefused.{BeginRefused}
use Rattle.ov_store.specs.declared.fault.BeginFault.TheVariants.{Memory as NoMemory}
use Rattle.ov_report.specs.Ends.{EndsOr}
use Rattle.ov_report.specs.Faults.{fault_line, fault_status}
use Rattle.ov_host.specs.Lasting.{StoreGoesOn, Survives, store_tells}
use Rattle.ov_host.specs.Sharing.{ServesValue, made}
use Rattle.ov_host.specs.declared.hosted.Hosted.{Hosted}

-- ---- a store and its server

-- What is known of a store that is begun, or isn't, on this disk: what `Store::begin` says.
pub record Begins {D : Type 0} (tells : DiskTells D) (k : Keys) (mode : Mode) (disk : D)
    (begun : Result (Opened D) (BeginRefused D)) : Type 0 where
  pub opened : IfOk begun (IsBegun tells k mode (tells.reads disk))
  pub fault : IfErr begun (λ refused. Told (tells.reads disk) (λ i.
      IsBeginFault k mode i refused.fault))
  pub any_moment : LeavesHistory tells k mode disk (disk_left begun)
  pub untouched : WritesNoBorn tells disk (disk_left begun)
  pub memory : IfErr begun (λ refused. refused.fault ≡ NoMemory
      → IsUntouched tells disk refused.disk)
  pub call : IsDiskCall tells (IsDiskFault begun) disk (disk_left begun)

-- A store wasn't begun: the disk is handed back, the door isn't touched, and the line says why.
pub record HandsBack {D S : Type 0} (refused : BeginRefused D) (old new : Doorway S)
    (before after : Option (List ℕ)) (hosted : Hosted D) : Type 0 where
  pub begun : hosted.begun ≡ false
  pub disk : hosted.disk ≡ refused.disk
  pub door : new ≡ old
  pub ends : EndsOr (fault_line refused.fault) (fault_status refused.fault)
      before after hosted.status

module _ {D S G : Type 0} (disk_tells : DiskTells D) (source : SourceTells S)
    (sink : SinkTells S) where
  -- The server of a store that was begun served. The store went on by the updates that were
  -- accepted, and by nothing else; and so did the disk that is handed back, from one that had
  -- nothing pending and whose image stood for a history of the mode.
  pub record ServesStore (k : Keys) (mode : Mode) (disk : D) (s : Opened D) (workers : ℕ)
      (old new : Doorway S) (idle done : SpawnerState S (Opened D) G) (wanted : ℕ)
      (before after : Option (List ℕ)) (hosted : Hosted D) : Type 0 where
    pub begun : hosted.begun ≡ true
    pub last : Opened D
    pub left : hosted.disk ≡ last.disk
    pub serves : ServesValue (store_tells disk_tells) source sink s last workers old new idle done
        wanted before after hosted.status
    pub goes_on : StoreGoesOn disk_tells s
        (made (store_tells disk_tells) source sink s last workers old new idle done wanted before
        after hosted.status serves) last
    pub survives : Told (disk_tells.reads disk) (λ i. Only i (disk_tells.may_leave disk)
        → (g : SealedHistory) → g.mode ≡ mode → IsImageOf k g i
        → Survives disk_tells k g
        (updates_of (made (store_tells disk_tells) source sink s last workers old new idle done
        wanted before after hosted.status serves)) last.failed disk hosted.disk)

  -- what is done with a store that was begun on this disk, or wasn't
  abbrev pub Hosts : Keys → Mode → D → Result (Opened D) (BeginRefused D) → ℕ → Doorway S
      → Doorway S → SpawnerState S (Opened D) G → SpawnerState S (Opened D) G → ℕ
      → Option (List ℕ) → Option (List ℕ) → Hosted D → Type 0
  Hosts k mode disk (Ok s) workers old new idle done wanted before after hosted =
      ServesStore k mode disk s workers old new idle done wanted before after hosted
  Hosts k mode disk (Err refused) workers old new idle done wanted before after hosted =
      HandsBack refused old new before after hosted × (done ≡ idle)

-- The disk that is handed back is the same loan. Its count of faults didn't fall, and at 4 it rose
-- and no store was begun.
pub record SaysDisk {D : Type 0} (tells : DiskTells D) (disk : D) (hosted : Hosted D) : Type 0 where
  pub call : IsDiskCall tells (hosted.status ≡ 4) disk hosted.disk
  pub refused : hosted.status ≡ 4 → hosted.begun ≡ false

-- one of the statuses of a server whose disk has its store, or none yet
abbrev pub IsOpenStatus : ℕ → Type 0
IsOpenStatus status =
    (status ≡ 0) ⊎ ((status ≡ 4) ⊎ ((status ≡ 6) ⊎ ((status ≡ 7) ⊎ (status ≡ 13))))
