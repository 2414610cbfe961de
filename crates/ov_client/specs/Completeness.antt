-- When a read is answered.
use Rattle.std.specs.Prelude.{◌≡◌, ℕ, List, ◌++◌, Result, Ok, Err}
use Rattle.ov_base.specs.Causes.{Rose}
use Rattle.ov_record.specs.Updates.{SealedUpdate}
use Rattle.ov_history.specs.Masters.{Masters}
use Rattle.ov_history.specs.Plain.{PlainHistory, history_of}
use Rattle.ov_history.specs.Refusals.{IsLegal}
use Rattle.ov_history.specs.Sealing.{IsSealedAs}
use Rattle.ov_protocol.specs.Serving.{Service, served}
use Rattle.ov_peer.specs.Alone.{IsAlone}
use Rattle.ov_peer.specs.Asks.{Ask, Leads}
use Rattle.ov_peer.specs.Disks.{IsDiskFault}
use Rattle.ov_peer.specs.Tells.{PeerTells}
use Rattle.ov_client.specs.Laws.{HasRoots, HoldsRootKeys, IsReadAt}
use Rattle.ov_client.specs.Readers.{Reader}
use Rattle.ov_client.specs.declared.fault.ClientFault.{ClientFault}
use Rattle.ov_client.specs.declared.fault.ClientFault.TheVariants.{Device, Link, Memory}

-- ---- the server

-- Between the one value of the peer and the other it replied that its disk failed, to an ask that
-- needs the disk at what it served.
pub record FailsDisk {P : Type 0} (peer : PeerTells P) (p q : P) : Type 0 where
  pub earlier : List Ask
  pub before : P
  pub leads : Leads peer p earlier before
  pub request : List ℕ
  pub reply : List ℕ
  pub after : P
  pub asks : peer.asked before request reply after
  pub more : List Ask
  pub goes_on : Leads peer after more q
  pub service : Service
  pub serving : peer.serves before service
  pub made : List SealedUpdate
  pub fault : IsDiskFault (served service) request reply made

-- what is served is right for this legal history, under these masters and their surface master
pub record IsStoreUnder (k : Masters) (h : PlainHistory) (v : Service) : Type 0 where
  pub surface : v.surface ≡ k.surface
  pub legal : IsLegal (history_of h)
  pub history : IsSealedAs k h v.history

-- ---- a read of it

-- The bytes, or the refusal, are the machine's at this history, and what is served stays. Or the
-- read was cut off: by the server's disk, by the link, or because memory was refused.
abbrev pub IsReadOrCut : PlainHistory → List ℕ → List ℕ → (stays disk link : Type 0)
    → Result (List ℕ) ClientFault → Type 0
IsReadOrCut h user file stays disk link (Err Device) = disk
IsReadOrCut h user file stays disk link (Err Link) = link
IsReadOrCut h user file stays disk link (Err Memory) = Unit {0}
IsReadOrCut h user file stays disk link result = IsReadAt h user file result × stays

-- A read of a server that nobody else updates gives what the machine gives, where what is served is
-- a store under the masters of the reader's root keys, which are of the user's roots in it. Only
-- the server's disk, the link or a lack of memory cuts it off.
abbrev pub IsCompleteRead : {P : Type 0} → PeerTells P → P → P → Reader → List ℕ
    → Result (List ℕ) ClientFault → Type 0
IsCompleteRead peer p q r file result =
    (k : Masters) (h : PlainHistory) (v : Service)
    → IsAlone peer → peer.serves p v → IsStoreUnder k h v → HoldsRootKeys k r → HasRoots h r
    → IsReadOrCut h r.name file (peer.serves q v) (FailsDisk peer p q)
    (Rose (peer.faults p) (peer.faults q)) result

-- a read that appends is complete as one of the bytes alone; nothing is appended at a fault
abbrev pub IsCompleteReadInto : {P : Type 0} → PeerTells P → P → P → Reader → List ℕ
    → List ℕ → List ℕ → Result (Unit {0}) ClientFault → Type 0
IsCompleteReadInto peer p q r file old new (Ok done) =
    (bytes : List ℕ) × (new ≡ old ++ bytes) × IsCompleteRead peer p q r file (Ok bytes)
IsCompleteReadInto peer p q r file old new (Err fault) =
    (new ≡ old) × IsCompleteRead peer p q r file (Err fault)
