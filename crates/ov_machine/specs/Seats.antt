-- Inner: no public contract needs this. The machine's server, as a peer.
use Rattle.std.specs.Prelude.{◌≡◌, ℕ, ◌≤◌, List, [], ◌∷◌, Option, Some, None, Ok, Err}
use Rattle.std.specs.Prelude.{◌⊎◌}
use Rattle.ov_base.specs.Causes.{Rose}
use Rattle.ov_disk.specs.Tells.{DiskTells}
use Rattle.ov_history.specs.Masters.{Masters}
use Rattle.ov_wire.specs.declared.request.Question.TheVariants.{Key}
use Rattle.ov_wire.specs.declared.request.Request.TheVariants.{Ask}
use Rattle.ov_peer.specs.Asks.{Ask as AskOf}
use Rattle.ov_peer.specs.Tells.{PeerTells}
use Rattle.ov_peer.specs.Tracing.{TracesAsk, TracesFault}
use Rattle.ov_server.specs.Answering.{AsksServer, WritesNothing}
use Rattle.ov_server.specs.Locally.{IsServedBy, answers_told, same_left}
use Rattle.ov_store.specs.Opened.{Opened}
use Rattle.ov_client.specs.Readers.{Reader}
use Rattle.ov_client.specs.Reads.{Reads}
use Rattle.ov_client.specs.declared.fault.ClientFault.TheVariants as client
use Rattle.ov_owner.specs.Clients.{reader_in}
use Rattle.ov_owner.specs.Questions.{AsksOnce}
use Rattle.ov_owner.specs.declared.fault.OwnerFault.TheVariants as faults
use Rattle.ov_machine.specs.declared.replying.Found.{Found}
use Rattle.ov_machine.specs.declared.replying.Found.TheVariants.{Read, Unread}

module _ {D : Type 0} (tells : DiskTells D) where
  -- the store, as the peer that asks its server
  abbrev pub store_peer : PeerTells (Opened D)
  store_peer = record {
    asked = λ p request reply q. AsksServer tells p q request reply (Ok tt);
    failed = λ p request q. q ≡ p;
    serves = λ p v. IsServedBy p v;
    faults = λ _. 0;
    borrow = λ p. tells.borrow p.disk;
    told = λ p q request reply v a s. answers_told tells p q request reply v a.answer s;
    left = λ p q request v f s. same_left p q request v f s;
  }

  -- the store was asked this, and replied so
  abbrev pub served : Opened D → List ℕ → List ℕ → Opened D → Type 0
  served s request reply t = store_peer.asked s request reply t

  -- a traced peer asks the store so: what it tells of its asks is that, and that its sink stays
  -- lent as it was
  pub record IsSeat {P : Type 0} (peer : PeerTells P) (server : P → Opened D)
      (put : P → Option (List ℕ)) (loan : P → ℕ) : Type 0 where
    pub asks : (p q : P) (request reply : List ℕ) → peer.asked p request reply q
        → TracesAsk store_peer (server p) (server q) (put p) (put q) request reply
        × (loan q ≡ loan p)
    pub fails : (p q : P) (request : List ℕ) → peer.failed p request q
        → TracesFault store_peer (server p) (server q) (put p) (put q) request
        × (loan q ≡ loan p)

  -- the last ask was answered, or one failed: it wasn't made, or its reply was lost
  abbrev pub LeftBy : Opened D → Option (List ℕ) → Opened D → Type 0
  LeftBy m None t = m ≡ t
  LeftBy m (Some request) t = (t ≡ m) ⊎ ((reply : List ℕ) × served m request reply t)

  -- All of the store is as it was but its disk: nothing was written to that, it is lent as it was,
  -- and its count of faults doesn't fall.
  pub record Stays (s t : Opened D) : Type 0 where
    pub writes : WritesNothing tells s t
    pub lent : tells.borrow t.disk ≡ tells.borrow s.disk
    pub later : tells.faults s.disk ≤ tells.faults t.disk

  -- these were asked of the store, one after the other, and each left all but its disk as it was
  abbrev pub AllStay : Opened D → List AskOf → Type 0
  AllStay s [] = Unit {0}
  AllStay s (a ∷ asks) =
      (t : Opened D) × served s a.request a.reply t × Stays s t × AllStay t asks

-- ---- a read

-- what came of a read: the user's keys were asked for, and with them the file was read
abbrev pub ReadsBy : {P : Type 0} → PeerTells P → Masters → P → P → List ℕ → List ℕ → Found → Type 0
ReadsBy peer k p q user file (Unread fault) =
    AsksOnce peer p q (Ask (Key user)) (reader_in k user) (Err fault)
ReadsBy {P} peer k p q user file (Read found) =
    (r : Reader) × (m : P)
    × AsksOnce peer p m (Ask (Key user)) (reader_in k user) (Ok r)
    × Reads peer m q r file found

-- a fault of the link comes only where the count rose, which doesn't fall
pub record HasFoundCause (before now : ℕ) (found : Found) : Type 0 where
  pub later : before ≤ now
  pub unread : found ≡ Unread faults.Link → Rose before now
  pub read : found ≡ Read (Err client.Link) → Rose before now
