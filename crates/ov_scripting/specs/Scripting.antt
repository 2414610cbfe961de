-- What `script` does, from the key file to the last line.
use Rattle.std.specs.Prelude.{◌≡◌, ◌⊎◌, ℕ, List, Option, Result, Ok, Err}
use Rattle.std.specs.Io.KnownBytes.{Keeps}
use Rattle.ov_history.specs.Masters.{Masters}
use Rattle.ov_keyfile.specs.declared.masters.Masters.{Masters as ReadMasters}
use Rattle.ov_wire.specs.declared.answer.Welcome.{Welcome}
use Rattle.ov_wire.specs.declared.request.Request.TheVariants as requests
use Rattle.ov_peer.specs.Tells.{PeerTells}
use Rattle.ov_owner.specs.Questions.{AsksOnce, welcome_in}
use Rattle.ov_owner.specs.declared.fault.OwnerFault.{OwnerFault}
use Rattle.ov_acts.specs.Acts.{admitted}
use Rattle.ov_acts.specs.Files.{FindsMasters, plain_masters}
use Rattle.ov_acts.specs.declared.stop.Stop.{Stop}
use Rattle.ov_acts.specs.declared.stop.Stop.TheVariants as stops
use Rattle.ov_scripting.specs.Answering.{Finishes, Halts}
use Rattle.ov_scripting.specs.declared.ended.Ended.{Ended}
use Rattle.ov_scripting.specs.declared.ended.Ended.TheVariants.{Stopped}

-- A script goes on from what was found; or it ends there for this reason, with nothing more asked
-- and nothing put.
abbrev pub GoesOn : {T P : Type 0} → Result T Stop → P → P → Option (List ℕ) → Option (List ℕ)
    → Ended → (T → Type 0) → Type 0
GoesOn (Ok value) p q old new ended Next = Next value
GoesOn (Err stop) p q old new ended Next =
    (q ≡ p) × Keeps old new × (ended ≡ Stopped stop)

module _ {P : Type 0} (peer : PeerTells P) where
  -- the script is answered, and the last line put
  abbrev pub AnswersScript : Masters → Option (List ℕ) → P → P → Option (List ℕ)
      → Option (List ℕ) → Ended → Type 0
  AnswersScript k text p q old new ended =
      (halted : Ended) × (mid : Option (List ℕ))
      × Halts peer k text p q old mid halted × Finishes halted mid new ended

  -- the server is asked for the check value of its store, which has to be that of the base master
  abbrev pub Greets : Masters → Option (List ℕ) → P → P → Option (List ℕ) → Option (List ℕ)
      → Ended → Type 0
  Greets k text p q old new ended =
      (greeting : Result Welcome OwnerFault) × (m : P)
      × AsksOnce peer p m requests.Hello welcome_in greeting
      × GoesOn (admitted k.base greeting) m q old new ended
      (λ _. AnswersScript k text m q old new ended)

  -- Nothing is asked until the masters are there. Memory may be refused before the script is read.
  abbrev pub Scripts : Option (List ℕ) → Option (List ℕ) → P → P → Option (List ℕ)
      → Option (List ℕ) → Ended → Type 0
  Scripts keys text p q old new ended =
      (found : Result ReadMasters Stop) × FindsMasters keys found
      × GoesOn found p q old new ended (λ masters.
      Greets (plain_masters masters) text p q old new ended
      ⊎ ((q ≡ p) × Keeps old new × (ended ≡ Stopped stops.Memory)))
