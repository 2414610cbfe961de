-- A read that is refused.
use Rattle.std.specs.Prelude.{◌≡◌, ◌⊎◌, ℕ, List, [], ◌∷◌, ◌++◌, Option, Result, Ok, Err}
use Rattle.ov_base.specs.declared.refusal.Refusal.{Refusal}
use Rattle.ov_wire.specs.declared.request.Request.TheVariants as requests
use Rattle.ov_wire.specs.declared.answer.Answer.TheVariants as answers
use Rattle.ov_wire.specs.AnswerReading.{answer_of}
use Rattle.ov_wire.specs.Requests.{request_bytes}
use Rattle.ov_peer.specs.Asks.{Ask}
use Rattle.ov_client.specs.Readers.{Reader}
use Rattle.ov_client.specs.Talks.{Talks}
use Rattle.ov_client.specs.declared.fault.ClientFault.{ClientFault}
use Rattle.ov_client.specs.declared.fault.ClientFault.TheVariants.{Memory, Refused}

-- the ask is a Chain to the file, and is refused so
pub record IsRefusedChain (r : Reader) (file : List ℕ) (why : Refusal) (a : Ask) : Type 0 where
  pub asked : a.request ≡ request_bytes (requests.Chain r.name file)
  pub refused : answer_of (requests.Chain r.name file) a.reply ≡ Ok (answers.Refused why)

-- the last of these asks is a Chain that is refused so
abbrev pub EndsRefused : Reader → List ℕ → Refusal → List Ask → Type 0
EndsRefused r file why asks =
    (before : List Ask) × (last : Ask) × (asks ≡ before ++ last ∷ [])
    × IsRefusedChain r file why last

-- a read is refused only where a Chain was, and then asks no more
abbrev pub RefusalsAreOfChains : Type 0
RefusalsAreOfChains =
    (r : Reader) (file : List ℕ) (asks : List Ask) (unanswered : Option (List ℕ)) (why : Refusal)
    → Talks r file asks unanswered (Err (Refused why)) → EndsRefused r file why asks

-- a Chain that is refused is the last ask of its read, which is refused so, or memory ran out
abbrev pub RefusedChainsEndReads : Type 0
RefusedChainsEndReads =
    (r : Reader) (file : List ℕ) (before rest : List Ask) (a : Ask) (unanswered : Option (List ℕ))
    (why : Refusal) (result : Result (List ℕ) ClientFault)
    → Talks r file (before ++ a ∷ rest) unanswered result → IsRefusedChain r file why a
    → (rest ≡ []) × ((result ≡ Err (Refused why)) ⊎ (result ≡ Err Memory))
