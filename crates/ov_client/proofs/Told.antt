-- What a read gives over a peer that tells its history is the machine's.
use Rattle.std.proofs.Common.{◌≡◌, ℕ, List, Option, Some, None, Result, Ok, Err, subst, inl, inr}
use Rattle.ov_history.specs.Masters.{Masters}
use Rattle.ov_protocol.specs.Serving.{Service}
use Rattle.ov_peer.specs.Asks.{EndsAt}
use Rattle.ov_peer.specs.Tells.{PeerTells}
use Rattle.ov_peer.proofs.Telling.{asks_along}
use Rattle.ov_client.specs.Laws.{HoldsRootKeys}
use Rattle.ov_client.specs.Readers.{Reader}
use Rattle.ov_client.specs.Reads.{Reads}
use Rattle.ov_client.specs.Talks.{Closes, Stage}
use Rattle.ov_client.specs.Told.{IsReadersReply, ReadsAlong}
use Rattle.ov_client.specs.declared.fault.ClientFault.{ClientFault}
use Rattle.ov_client.specs.declared.fault.ClientFault.TheVariants as faults
use Rattle.ov_client.proofs.Machine.{reads_are_the_machines}

module _ {P : Type 0} (peer : PeerTells P) (p q : P) (r : Reader) (file : List ℕ) where
  -- a read that has its answer left the peer as its last ask did
  pub left_so : (m : P) (stage : Stage) (unanswered : Option (List ℕ))
      (result : Result (List ℕ) ClientFault)
      → (result ≡ Err faults.Link → ⊥) → (result ≡ Err faults.Memory → ⊥)
      → Closes r file stage unanswered result → EndsAt peer m unanswered q → m ≡ q
  left_so m stage None result linked given closes ends = ends
  left_so m stage (Some frame) result linked given (is, inl e) ends = absurd (linked e)
  left_so m stage (Some frame) result linked given (is, inr e) ends = absurd (given e)

  -- the asks of such a read are told, and what it gives is the machine's
  read_along : (result : Result (List ℕ) ClientFault) (v : Service) (k : Masters)
      → (result ≡ Err faults.Link → ⊥) → (result ≡ Err faults.Memory → ⊥)
      → Reads peer p q r file result → peer.serves p v → HoldsRootKeys k r
      → v.surface ≡ k.surface
      → ReadsAlong k r file v (peer.serves q) result
  read_along result v k linked given (asks, unanswered, (m, leads, ends), (stage, goes, closes)) is
      keys same =
      let told = asks_along peer p m asks v leads is in (
        asks,
        told.0,
        told.1,
        told.2,
        subst (λ x. peer.serves x told.1)
            (left_so m stage unanswered result linked given closes ends) told.3,
        reads_are_the_machines k r file asks unanswered result v told.1 told.0 keys same
            (stage, goes, closes) told.2,
      )

  -- what every read gives is the machine's
  pub read_told : (result : Result (List ℕ) ClientFault) (v : Service)
      → Reads peer p q r file result → peer.serves p v
      → IsReadersReply r file v (peer.serves q) result
  read_told (Ok bytes) v reads is =
      λ k keys same. read_along (Ok bytes) v k (λ e. cc) (λ e. cc) reads is keys same
  read_told (Err (faults.Refused why)) v reads is =
      λ k keys same.
      read_along (Err (faults.Refused why)) v k (λ e. cc) (λ e. cc) reads is keys same
  read_told (Err (faults.Damaged stored computed)) v reads is =
      λ k keys same.
      read_along (Err (faults.Damaged stored computed)) v k (λ e. cc) (λ e. cc) reads is keys same
  read_told (Err faults.Link) v reads is = λ k keys same. tt
  read_told (Err (faults.BadReply place)) v reads is = λ k keys same. tt
  read_told (Err faults.Device) v reads is = λ k keys same. tt
  read_told (Err (faults.Unsettled generations)) v reads is = λ k keys same. tt
  read_told (Err faults.Memory) v reads is = λ k keys same. tt
