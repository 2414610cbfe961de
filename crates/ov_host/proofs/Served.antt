-- A store went on by the updates that its sessions accepted.
use Rattle.std.proofs.Common.{◌≡◌, ◌∙◌, inl, inr, ℕ, List, [], Option, true, ap, arith, subst, sym}
use Rattle.ov_base.specs.declared.mode.Mode.{Mode}
use Rattle.ov_disk.specs.Calls.{IsDiskCall}
use Rattle.ov_disk.specs.Tells.{DiskTells}
use Rattle.ov_io.specs.Tells.{SinkTells, SourceTells}
use Rattle.ov_images.specs.Images.{Keys}
use Rattle.ov_peer.specs.Tells.{AnswererTells}
use Rattle.ov_protocol.specs.Updating.{updates_of}
use Rattle.ov_session.specs.Doors.{Doorway}
use Rattle.ov_serving.specs.Spawning.{SpawnerState}
use Rattle.ov_store.specs.Beginning.{IsBegun, LeavesHistory}
use Rattle.ov_store.specs.Opened.{Opened}
use Rattle.ov_turn.specs.Logs.{spellings}
use Rattle.ov_host.specs.Hosting.{SaysDisk, ServesStore}
use Rattle.ov_host.specs.Lasting.{StoreGoesOn, Survives, store_tells}
use Rattle.ov_host.specs.Sharing.{ServesValue, made}
use Rattle.ov_host.specs.declared.hosted.Hosted.{Hosted}
use Rattle.ov_host.proofs.Endings.{serves_not_4}
use Rattle.ov_host.proofs.Surviving.{survives_from}

module _ {V S G : Type 0} (answerer : AnswererTells V) (source : SourceTells S) (sink : SinkTells S) (value left : V) (workers : ℕ)
    (old new : Doorway S) (idle done : SpawnerState S V G) (wanted : ℕ) (before after : Option (List ℕ)) (status : ℕ) where
  -- the value is reached by what was made
  pub value_reached : (serves : ServesValue answerer source sink value left workers old new idle done wanted before after status)
      → answerer.reached value (made answerer source sink value left workers old new idle done wanted before after status serves) left
  value_reached (inl fails) = fails.same
  value_reached (inr shares) =
      subst (λ (v : V). answerer.reached v (spellings shares.is_left.0) left) shares.start shares.is_left.1

module _ {D S G : Type 0} (disk_tells : DiskTells D) (source : SourceTells S) (sink : SinkTells S) where
  -- what is done with a server
  abbrev ServesOpened : (v last : Opened D) (workers : ℕ) (old new : Doorway S) (idle done : SpawnerState S (Opened D) G) (wanted : ℕ)
      (before after : Option (List ℕ)) (status : ℕ) → Type 0
  ServesOpened v last workers old new idle done wanted before after status =
      ServesValue (store_tells disk_tells) source sink v last workers old new idle done wanted before after status

  -- the server of a store that was just begun on this disk served
  pub store_served : (k : Keys) (mode : Mode) (disk : D) (s last : Opened D) (workers : ℕ) (old new : Doorway S)
      (idle done : SpawnerState S (Opened D) G) (wanted : ℕ) (before after : Option (List ℕ)) (hosted : Hosted D)
      → IsBegun disk_tells k mode (disk_tells.reads disk) s → LeavesHistory disk_tells k mode disk s.disk
      → hosted.begun ≡ true → hosted.disk ≡ last.disk → (v : Opened D) → v ≡ s
      → ServesOpened v last workers old new idle done wanted before after hosted.status
      → ServesStore disk_tells source sink k mode disk s workers old new idle done wanted before after hosted
  store_served k mode disk s last workers old new idle done wanted before after hosted begun first was left v same serves =
      let from : ServesOpened s last workers old new idle done wanted before after hosted.status =
      subst (λ (m : Opened D). ServesOpened m last workers old new idle done wanted before after hosted.status) same serves in
      let list = made (store_tells disk_tells) source sink s last workers old new idle done wanted before after hosted.status from in
      let on : StoreGoesOn disk_tells s list last =
      value_reached (store_tells disk_tells) source sink s last workers old new idle done wanted before after hosted.status from in
      record {
        begun = was;
        last = last;
        left = left;
        serves = from;
        goes_on = on;
        survives = λ i told only g mode_is stands.
            subst (λ (d : D). Survives disk_tells k g (updates_of list) last.failed disk d) (sym left)
            (survives_from disk_tells k mode disk s last list begun first on i told only g mode_is stands);
      }

  -- the server of a store that was just begun on this disk hands the disk back
  pub served_disk : (k : Keys) (mode : Mode) (disk : D) (s : Opened D) (workers : ℕ) (old new : Doorway S)
      (idle done : SpawnerState S (Opened D) G) (wanted : ℕ) (before after : Option (List ℕ)) (hosted : Hosted D) (F : Type 0)
      → ServesStore disk_tells source sink k mode disk s workers old new idle done wanted before after hosted
      → IsDiskCall disk_tells F disk s.disk → SaysDisk disk_tells disk hosted
  served_disk k mode disk s workers old new idle done wanted before after hosted F served call =
      let never = serves_not_4 (store_tells disk_tells) source sink s served.last workers old new idle done wanted before after
      hosted.status served.serves in
      record {
        call = record {
          same = ap disk_tells.borrow served.left ∙ served.goes_on.same ∙ call.same;
          later = omega (arith, ap disk_tells.faults served.left, served.goes_on.later, call.later);
          rose = λ four. absurd (never four);
        };
        refused = λ four. absurd (never four);
      }
