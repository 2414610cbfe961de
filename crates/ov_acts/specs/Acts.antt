-- What an act asks, in which order, and what comes of it.
use Rattle.std.specs.Prelude.{◌≡◌, ◌⊎◌, ℕ, List, [], ◌∷◌, ◌++◌, Bool, true, false, bytes_eq}
use Rattle.std.specs.Prelude.{Option, Result, Ok, Err}
use Rattle.hex.specs.Hex.{encode_lower}
use Rattle.ov_tokens.specs.Keys.{check_value_of}
use Rattle.ov_client.specs.KeyLines.{key_line}
use Rattle.ov_client.specs.Readers.{Reader}
use Rattle.ov_client.specs.Reads.{Reads}
use Rattle.ov_client.specs.declared.fault.ClientFault.{ClientFault}
use Rattle.ov_history.specs.Masters.{Masters}
use Rattle.ov_keyfile.specs.declared.masters.Masters.{Masters as ReadMasters}
use Rattle.ov_owner.specs.Calls.{Runs}
use Rattle.ov_owner.specs.Clients.{reader_in}
use Rattle.ov_owner.specs.Errands.{creating, enrolling, granting, removing, replacing, revoking}
use Rattle.ov_owner.specs.Questions.{AsksOnce, names_in, welcome_in}
use Rattle.ov_owner.specs.declared.fault.OwnerFault.{OwnerFault}
use Rattle.ov_script.specs.Lines.{reply_line}
use Rattle.ov_script.specs.declared.command.Command.{Command}
use Rattle.ov_script.specs.declared.command.Command.TheVariants as commands
use Rattle.ov_script.specs.declared.reply.Reply.TheVariants as replies
use Rattle.ov_wire.specs.declared.answer.Welcome.{Welcome}
use Rattle.ov_wire.specs.declared.request.Question.TheVariants as questions
use Rattle.ov_wire.specs.declared.request.Request.TheVariants as requests
use Rattle.ov_peer.specs.Tells.{PeerTells}
use Rattle.ov_acts.specs.Files.{FindsBody, FindsMasters, FindsReader, plain_masters}
use Rattle.ov_acts.specs.Stops.{Outcome, stop_of_client, stop_of_owner}
use Rattle.ov_acts.specs.declared.job.Act.{Act}
use Rattle.ov_acts.specs.declared.job.Act.TheVariants.{Check, Create, Enrol, Grant, Key}
use Rattle.ov_acts.specs.declared.job.Act.TheVariants.{List as ListNames, Read, Remove, Replace, Revoke}
use Rattle.ov_acts.specs.declared.stop.Stop.{Stop}
use Rattle.ov_acts.specs.declared.stop.Stop.TheVariants.{Memory, OtherKeys}

-- an act goes on from what was found; or it stops there for this reason, and nothing more is asked
abbrev pub ActGoesOn : {T P : Type 0} → Result T Stop → P → P → Outcome → (T → Type 0) → Type 0
ActGoesOn (Ok value) p q outcome Next = Next value
ActGoesOn (Err stop) p q outcome Next = (q ≡ p) × (outcome ≡ Err stop)

-- ---- what a call gave

-- The outcome is the line on what an owner's call gave, or the call's fault as its reason. Memory
-- may be refused for the line.
abbrev pub Says : {T : Type 0} → (T → List ℕ) → Result T OwnerFault → Outcome → Type 0
Says line (Ok value) outcome = (outcome ≡ Ok (line value)) ⊎ (outcome ≡ Err Memory)
Says line (Err fault) outcome = outcome ≡ Err (stop_of_owner fault)

-- the line on an update, by the epoch that it made
abbrev pub update_line : ℕ → List ℕ
update_line epoch = reply_line (replies.Accepted epoch)

-- the line on the list of this file
abbrev pub list_line : List ℕ → List (List ℕ) → List ℕ
list_line file names = reply_line (replies.List file names)

-- the line with a check value
abbrev pub check_line : List ℕ → List ℕ
check_line value = encode_lower value ++ 10 ∷ []

-- the bytes that were read, or the reason that the fault is
abbrev pub read_outcome : Result (List ℕ) ClientFault → Outcome
read_outcome (Ok bytes) = Ok bytes
read_outcome (Err fault) = Err (stop_of_client fault)

-- ---- the check value

-- the line with the check value of these masters, or memory was refused for it; or why there are no
-- masters
abbrev pub SaysCheck : Result ReadMasters Stop → Outcome → Type 0
SaysCheck (Ok masters) outcome =
    (outcome ≡ Ok (check_line (check_value_of masters.base.bytes))) ⊎ (outcome ≡ Err Memory)
SaysCheck (Err stop) outcome = outcome ≡ Err stop

-- the key file is read
abbrev pub ChecksBy : Option (List ℕ) → Outcome → Type 0
ChecksBy keys outcome =
    (found : Result ReadMasters Stop) × FindsMasters keys found × SaysCheck found outcome

-- ---- an owner's acts

-- whether these two values are one
abbrev pub admitted_if : Bool → Result (Unit {0}) Stop
admitted_if true = Ok tt
admitted_if false = Err OtherKeys

-- the store is one of this base master, by its check value, or why the act stops
abbrev pub admitted : List ℕ → Result Welcome OwnerFault → Result (Unit {0}) Stop
admitted base (Ok welcome) = admitted_if (bytes_eq welcome.base_check (check_value_of base))
admitted base (Err fault) = Err (stop_of_owner fault)

-- the act asks for the change of this command, where these bytes are stored
abbrev pub AsksFor : Act → List ℕ → Command → Type 0
AsksFor (Enrol user) bytes command = command ≡ commands.Enrol user
AsksFor (Grant user file) bytes command = command ≡ commands.Grant user file
AsksFor (Revoke user file) bytes command = command ≡ commands.Revoke user file
AsksFor (Remove file) bytes command = command ≡ commands.Remove file
AsksFor (Create file list) bytes command = command ≡ commands.Create file list bytes
AsksFor (Replace file) bytes command = command ≡ commands.Replace file bytes
AsksFor act bytes command = ⊥

-- the act asks an owner's question, which changes nothing
abbrev pub IsQuestion : Act → Type 0
IsQuestion (ListNames file) = Unit {0}
IsQuestion (Key user) = Unit {0}
IsQuestion act = ⊥

module _ {P : Type 0} (peer : PeerTells P) where
  -- the owner with these masters makes the call of the act, and this comes of it
  abbrev pub Performs : Masters → Act → List ℕ → P → P → Outcome → Type 0
  Performs k (Enrol user) bytes p q outcome =
      (result : Result ℕ OwnerFault)
      × Runs peer k.surface (enrolling user) p q result × Says update_line result outcome
  Performs k (Grant user file) bytes p q outcome =
      (result : Result ℕ OwnerFault)
      × Runs peer k.surface (granting k.base user file) p q result
      × Says update_line result outcome
  Performs k (Revoke user file) bytes p q outcome =
      (result : Result ℕ OwnerFault)
      × Runs peer k.surface (revoking user file) p q result
      × Says update_line result outcome
  Performs k (Remove file) bytes p q outcome =
      (result : Result ℕ OwnerFault)
      × Runs peer k.surface (removing file) p q result × Says update_line result outcome
  Performs k (Create file list) bytes p q outcome =
      (result : Result ℕ OwnerFault)
      × Runs peer k.surface (creating k.base file list bytes) p q result
      × Says update_line result outcome
  Performs k (Replace file) bytes p q outcome =
      (result : Result ℕ OwnerFault)
      × Runs peer k.surface (replacing k.base file bytes) p q result
      × Says update_line result outcome
  Performs k (ListNames file) bytes p q outcome =
      (result : Result (List (List ℕ)) OwnerFault)
      × AsksOnce peer p q (requests.List file) names_in result
      × Says (list_line file) result outcome
  Performs k (Key user) bytes p q outcome =
      (result : Result Reader OwnerFault)
      × AsksOnce peer p q (requests.Ask (questions.Key user)) (reader_in k user) result
      × Says key_line result outcome
  Performs k (Read file) bytes p q outcome = ⊥
  Performs k Check bytes p q outcome = ⊥

  -- the server is asked first for the check value of its store, which has to be that of the base
  -- master
  abbrev pub Owns : Masters → Act → List ℕ → P → P → Outcome → Type 0
  Owns k act bytes p q outcome =
      (greeting : Result Welcome OwnerFault) × (m : P)
      × AsksOnce peer p m requests.Hello welcome_in greeting
      × ActGoesOn (admitted k.base greeting) m q outcome (λ _. Performs k act bytes m q outcome)

  -- nothing is asked until the masters are there and, behind them, the bytes to be stored
  abbrev pub OwnsBy : Act → Option (List ℕ) → Option (List ℕ) → P → P → Outcome → Type 0
  OwnsBy act keys body p q outcome =
      (found : Result ReadMasters Stop) × FindsMasters keys found
      × ActGoesOn found p q outcome (λ masters.
      (taken : Result (List ℕ) Stop) × FindsBody act body taken
      × ActGoesOn taken p q outcome (λ bytes.
      Owns (plain_masters masters) act bytes p q outcome))

  -- ---- the others

  -- the user key line is read, and then the file by its reader
  abbrev pub ReadsBy : List ℕ → Option (List ℕ) → P → P → Outcome → Type 0
  ReadsBy file keys p q outcome =
      (found : Result Reader Stop) × FindsReader keys found
      × ActGoesOn found p q outcome (λ r.
      (result : Result (List ℕ) ClientFault) × Reads peer p q r file result
      × (outcome ≡ read_outcome result))

  -- what is asked of a peer for an act, and what comes of it
  abbrev pub Acts : Act → Option (List ℕ) → Option (List ℕ) → P → P → Outcome → Type 0
  Acts (Read file) keys body p q outcome = ReadsBy file keys p q outcome
  Acts Check keys body p q outcome = (q ≡ p) × ChecksBy keys outcome
  Acts act keys body p q outcome = OwnsBy act keys body p q outcome
