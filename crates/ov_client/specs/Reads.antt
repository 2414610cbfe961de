-- The asks by which a file is read of a peer.
use Rattle.std.specs.Prelude.{◌≡◌, ℕ, List, [], ◌++◌, Option, Result, Ok, Err}
use Rattle.ov_peer.specs.Asks.{AreAsks, Ask, Leads}
use Rattle.ov_peer.specs.Tells.{PeerTells}
use Rattle.ov_client.specs.Readers.{Reader}
use Rattle.ov_client.specs.Talks.{Goes, Stage, AsksChain, TalksFrom}
use Rattle.ov_client.specs.declared.fault.ClientFault.{ClientFault}

-- asks lead from the one peer to the other, and from the one stage to the other
abbrev pub Reaches : {P : Type 0} → PeerTells P → P → P → Reader → List ℕ → Stage → Stage → Type 0
Reaches peer p q r file stage next =
    (asks : List Ask) × Leads peer p asks q × Goes r file stage asks next

-- from this stage the asks from the one peer to the other are those of a read, with this result
abbrev pub ReadsFrom : {P : Type 0} → PeerTells P → P → P → Reader → List ℕ → Stage
    → Result (List ℕ) ClientFault → Type 0
ReadsFrom peer p q r file stage result =
    (asks : List Ask) × (unanswered : Option (List ℕ))
    × AreAsks peer p asks unanswered q × TalksFrom r file stage asks unanswered result

-- the asks from the one peer to the other are those of a read of this file, with this result
abbrev pub Reads : {P : Type 0} → PeerTells P → P → P → Reader → List ℕ
    → Result (List ℕ) ClientFault → Type 0
Reads peer p q r file result = ReadsFrom peer p q r file (AsksChain [] 0) result

-- the bytes of a read that is done are appended, and nothing is appended where it ends with a fault
abbrev pub ReadsInto : {P : Type 0} → PeerTells P → P → P → Reader → List ℕ
    → List ℕ → List ℕ → Result (Unit {0}) ClientFault → Type 0
ReadsInto peer p q r file old new (Ok done) =
    (bytes : List ℕ) × (new ≡ old ++ bytes) × Reads peer p q r file (Ok bytes)
ReadsInto peer p q r file old new (Err fault) = (new ≡ old) × Reads peer p q r file (Err fault)

-- Part of a read, from this stage on: it comes to the stage that follows what was told, or the
-- read ends with the fault.
abbrev pub ReadGoesOn : {P : Type 0} → PeerTells P → P → P → Reader → List ℕ → Stage
    → {T : Type 0} → (T → Stage) → Result T ClientFault → Type 0
ReadGoesOn peer p q r file stage next (Ok told) = Reaches peer p q r file stage (next told)
ReadGoesOn peer p q r file stage next (Err fault) = ReadsFrom peer p q r file stage (Err fault)
