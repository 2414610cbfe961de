-- What is printed of a read is the machine's.
use Rattle.std.proofs.Common.{◌≡◌, ℕ, List, Option, Some, Result, Ok, Err, sym, subst}
use Rattle.ov_client.specs.KeyLines.{IsLineOf}
use Rattle.ov_client.specs.Readers.{Reader}
use Rattle.ov_client.specs.Told.{IsReadersReply, ReadsAsMachine as ReadAsMachine}
use Rattle.ov_client.specs.declared.fault.ClientFault.{ClientFault}
use Rattle.ov_client.specs.declared.fault.ClientFault.TheVariants as faults
use Rattle.ov_history.specs.Masters.{Masters}
use Rattle.ov_protocol.specs.Serving.{Service}
use Rattle.ov_acts.specs.Acts.{read_outcome}
use Rattle.ov_acts.specs.Files.{FindsReader}
use Rattle.ov_acts.specs.Machine.{ReadersAsMachine, ReadsAsMachine}
use Rattle.ov_acts.specs.Stops.{Outcome}

-- what is told of a read is told of what comes of it
outcome_told : (k : Masters) (r : Reader) (file : List ℕ) (v : Service) (Then : Service → Type 0)
    (result : Result (List ℕ) ClientFault)
    → ReadAsMachine k r file v Then result
    → ReadsAsMachine k r file v Then (read_outcome result)
outcome_told k r file v Then (Ok bytes) told = told
outcome_told k r file v Then (Err (faults.Refused why)) told = told
outcome_told k r file v Then (Err faults.Link) told = tt
outcome_told k r file v Then (Err (faults.BadReply place)) told = tt
outcome_told k r file v Then (Err (faults.Damaged stored computed)) told = (stored, computed, told)
outcome_told k r file v Then (Err faults.Device) told = tt
outcome_told k r file v Then (Err (faults.Unsettled generations)) told = tt
outcome_told k r file v Then (Err faults.Memory) told = tt

-- a line's reader is the one that was found in it
same_reader : (keys : Option (List ℕ)) (line : List ℕ) (r client : Reader)
    → ((text : List ℕ) (r s : Reader) → IsLineOf text r → IsLineOf text s → r ≡ s)
    → FindsReader keys (Ok client) → keys ≡ Some line → IsLineOf line r → client ≡ r
same_reader keys line r client once found told is =
    once line client r (subst (λ known. FindsReader known (Ok client)) told found) is

-- what a read by the line that was found gives is the machine's, for each reader of that line
pub reader_told : ((text : List ℕ) (r s : Reader) → IsLineOf text r → IsLineOf text s → r ≡ s)
    → (client : Reader) (file : List ℕ) (keys : Option (List ℕ))
    (result : Result (List ℕ) ClientFault) (outcome : Outcome) (v : Service)
    (Then : Service → Type 0)
    → FindsReader keys (Ok client) → IsReadersReply client file v Then result
    → outcome ≡ read_outcome result → ReadersAsMachine file keys v Then outcome
reader_told once client file keys result outcome v Then found replies e =
    λ line r k told line_is holds same.
    let one : client ≡ r = same_reader keys line r client once found told line_is in
    let by_r : IsReadersReply r file v Then result =
    subst (λ (x : Reader). IsReadersReply x file v Then result) one replies in
    subst (ReadsAsMachine k r file v Then) (sym e)
    (outcome_told k r file v Then result (by_r k holds same))
