-- What a read gives over a peer that tells which history it serves.
use Rattle.std.specs.Prelude.{◌≡◌, ℕ, List, ◌++◌, None, Result, Ok, Err}
use Rattle.ov_history.specs.Masters.{Masters}
use Rattle.ov_history.specs.Sealed.{SealedHistory}
use Rattle.ov_protocol.specs.Serving.{Service}
use Rattle.ov_peer.specs.Asks.{Along, AreRight, Ask}
use Rattle.ov_client.specs.Laws.{HoldsRootKeys, IsAsMachine, last_chain}
use Rattle.ov_client.specs.Readers.{Reader}
use Rattle.ov_client.specs.declared.fault.ClientFault.{ClientFault}
use Rattle.ov_client.specs.declared.fault.ClientFault.TheVariants.{Damaged, Refused}

-- Asks were answered along histories that go on from the one that was served, and what is served
-- then goes on from them. Where they are right under these masters, the result is the machine's at
-- the history of the last Chain.
abbrev pub ReadsAlong : Masters → Reader → List ℕ → Service → (Service → Type 0)
    → Result (List ℕ) ClientFault → Type 0
ReadsAlong k r file v Then result =
    (asks : List Ask) × (histories : List SealedHistory) × (last : Service)
    × Along v asks histories last × Then last
    × (AreRight k histories → IsAsMachine k (last_chain None asks histories) r.name file result)

-- Bytes, a refusal and damage are the machine's at the history of the last Chain, where the
-- histories along which the asks were answered are right. Damaged bytes never come there. Other
-- faults say nothing.
abbrev pub ReadsAsMachine : Masters → Reader → List ℕ → Service → (Service → Type 0)
    → Result (List ℕ) ClientFault → Type 0
ReadsAsMachine k r file v Then (Ok bytes) = ReadsAlong k r file v Then (Ok bytes)
ReadsAsMachine k r file v Then (Err (Refused why)) = ReadsAlong k r file v Then (Err (Refused why))
ReadsAsMachine k r file v Then (Err (Damaged stored computed)) =
    ReadsAlong k r file v Then (Err (Damaged stored computed))
ReadsAsMachine k r file v Then (Err fault) = Unit {0}

-- What a read gives is the machine's, for a reader whose keys are those of its roots, under masters
-- of which the surface master is the one that is served under.
abbrev pub IsReadersReply : Reader → List ℕ → Service → (Service → Type 0)
    → Result (List ℕ) ClientFault → Type 0
IsReadersReply r file v Then result =
    (k : Masters) → HoldsRootKeys k r → v.surface ≡ k.surface → ReadsAsMachine k r file v Then result

-- what a read that appends its bytes gives is the machine's, as for a read of the bytes alone
abbrev pub IsReadersReplyInto : Reader → List ℕ → Service → (Service → Type 0) → List ℕ → List ℕ
    → Result (Unit {0}) ClientFault → Type 0
IsReadersReplyInto r file v Then old new (Ok done) =
    (bytes : List ℕ) × (new ≡ old ++ bytes) × IsReadersReply r file v Then (Ok bytes)
IsReadersReplyInto r file v Then old new (Err fault) = IsReadersReply r file v Then (Err fault)
