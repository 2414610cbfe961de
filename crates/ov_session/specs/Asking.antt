-- What one ask tells.
use Rattle.std.specs.Prelude.{◌≡◌, ℕ, List, Some, None, Result, Ok, Err}
use Rattle.ov_peer.specs.declared.fault.AskFault.{AskFault}
use Rattle.ov_peer.specs.declared.fault.AskFault.TheVariants as faults
use Rattle.ov_session.specs.Tells.{AskerTells}

-- the asker was asked, and replied or had no memory; or it wasn't asked and is as before
abbrev pub TellsAsk : {A : Type 0} → AskerTells A → A → A → List ℕ → List ℕ
    → Result (Unit {0}) AskFault → Type 0
TellsAsk tells a b request reply (Ok done) = tells.asks a request (Some reply) b
TellsAsk tells a b request reply (Err faults.Spent) = b ≡ a
TellsAsk tells a b request reply (Err faults.Memory) = tells.asks a request None b
