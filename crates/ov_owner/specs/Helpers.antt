-- Inner: no public contract needs this. What an owner's helpers do.
use Rattle.std.specs.Prelude.{◌≡◌, ◌⊎◌, ℕ, List, [], ◌∷◌, ◌++◌, Result, Ok, Err}
use Rattle.ov_record.specs.Updates.{SealedUpdate, sealed_update}
use Rattle.ov_wire.specs.declared.answer.Answer.{Answer}
use Rattle.ov_wire.specs.declared.answer.Answer.TheVariants as answers
use Rattle.ov_peer.specs.declared.fault.ExchangeFault.{ExchangeFault}
use Rattle.ov_peer.specs.declared.fault.ExchangeFault.TheVariants as exchange
use Rattle.ov_peer.specs.Tells.{PeerTells}
use Rattle.ov_owner.specs.Calls.{Concludes, Passes}
use Rattle.ov_owner.specs.Errands.{Errand}
use Rattle.ov_owner.specs.Talks.{Asks, Sends, again}
use Rattle.ov_owner.specs.declared.fault.OwnerFault.{OwnerFault}
use Rattle.ov_owner.specs.declared.fault.OwnerFault.TheVariants as faults
use Rattle.ov_owner.specs.declared.sealing.Sealed.{Sealed}
use Rattle.ov_owner.specs.declared.sending.Sent.{Sent}
use Rattle.ov_owner.specs.declared.sending.Sent.TheVariants.{Accepted, Stale}

-- the fault of a call whose ask has no answer
abbrev pub owner_fault : ExchangeFault → OwnerFault
owner_fault exchange.Link = faults.Link
owner_fault (exchange.BadReply place) = faults.BadReply place
owner_fault exchange.Memory = faults.Memory

-- what is sealed is this, unless memory ran out
abbrev pub Seals : Result (ℕ × SealedUpdate) OwnerFault → Result Sealed OwnerFault → Type 0
Seals told (Ok made) = told ≡ Ok (made.epoch, sealed_update made.update)
Seals told (Err fault) = (fault ≡ faults.Memory) ⊎ (told ≡ Err fault)

-- what came of an Update, or why the call ends
abbrev pub sent_of : Answer → Result Sent OwnerFault
sent_of (answers.Accepted epoch) = Ok (Accepted epoch)
sent_of (answers.Stale epoch) = Ok (Stale epoch)
sent_of (answers.Refused why) = Err (faults.Refused why)
sent_of answers.BadTag = Err faults.BadTag
sent_of answers.DeviceFault = Err faults.Device
sent_of answers.NoMemory = Err faults.Memory
sent_of answer = Err (faults.BadReply 0)

-- the first ask led to the stage at which this update is sent, or the call ended
abbrev pub IsAsked : {P : Type 0} → PeerTells P → List ℕ → Errand → ℕ → P → P
    → Result Sealed OwnerFault → Type 0
IsAsked peer surface e least p q (Ok made) =
    (tries : List ℕ) → Passes peer surface e (Asks tries least) p
    (Sends tries made.epoch (sealed_update made.update)) q
IsAsked peer surface e least p q (Err fault) =
    (tries : List ℕ) → Concludes peer surface e (Asks tries least) p q (Err fault)

-- the update was sent, and the call ended or goes on after a Stale
abbrev pub IsSent : {P : Type 0} → PeerTells P → List ℕ → Errand → List ℕ → ℕ
    → SealedUpdate → P → P → Result Sent OwnerFault → Type 0
IsSent peer surface e tries epoch u p q (Ok (Accepted now)) =
    Concludes peer surface e (Sends tries epoch u) p q (Ok now)
IsSent peer surface e tries epoch u p q (Ok (Stale now)) =
    Passes peer surface e (Sends tries epoch u) p (again (tries ++ epoch ∷ []) now) q
IsSent peer surface e tries epoch u p q (Err fault) =
    Concludes peer surface e (Sends tries epoch u) p q (Err fault)
