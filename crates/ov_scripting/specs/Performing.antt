-- What a command of a script asks of a peer, and what comes of it.
use Rattle.std.specs.Prelude.{◌≡◌, ◌≤◌, ℕ, List, Result, Ok, Err, IfErr}
use Rattle.ov_base.specs.Causes.{Rose}
use Rattle.ov_script.specs.Items.{IsItem}
use Rattle.ov_script.specs.declared.command.Command.{Command}
use Rattle.ov_script.specs.declared.command.Command.TheVariants as commands
use Rattle.ov_script.specs.declared.reply.Reply.{Reply}
use Rattle.ov_script.specs.declared.reply.Reply.TheVariants as replies
use Rattle.ov_history.specs.Masters.{Masters}
use Rattle.ov_history.specs.Plain.{PlainHistory}
use Rattle.ov_wire.specs.declared.answer.Welcome.{Welcome}
use Rattle.ov_wire.specs.declared.request.Question.TheVariants as questions
use Rattle.ov_wire.specs.declared.request.Request.TheVariants as requests
use Rattle.ov_protocol.specs.Serving.{Service}
use Rattle.ov_peer.specs.Alone.{IsAlone}
use Rattle.ov_peer.specs.Tells.{PeerTells}
use Rattle.ov_client.specs.Completeness.{FailsDisk, IsStoreUnder}
use Rattle.ov_client.specs.Readers.{Reader}
use Rattle.ov_client.specs.Reads.{Reads}
use Rattle.ov_client.specs.declared.fault.ClientFault.{ClientFault}
use Rattle.ov_client.specs.declared.fault.ClientFault.TheVariants as client
use Rattle.ov_owner.specs.Calls.{Runs}
use Rattle.ov_owner.specs.Clients.{reader_in}
use Rattle.ov_owner.specs.Completeness.{StepsTo}
use Rattle.ov_owner.specs.Errands.{Errand}
use Rattle.ov_owner.specs.Questions.{AsksOnce, names_in, welcome_in}
use Rattle.ov_owner.specs.Steps.{IsErrandFor}
use Rattle.ov_owner.specs.declared.fault.OwnerFault.{OwnerFault}
use Rattle.ov_owner.specs.declared.fault.OwnerFault.TheVariants as owner
use Rattle.ov_acts.specs.Stops.{stop_of_client, stop_of_owner}
use Rattle.ov_acts.specs.declared.stop.Stop.{Stop}
use Rattle.ov_acts.specs.declared.stop.Stop.TheVariants as stops

-- the command is what some item of a script says
abbrev pub IsWritten : Command → Type 0
IsWritten command = (item : List ℕ) × IsItem item command

-- the command asks for no change
abbrev pub IsQuestion : Command → Type 0
IsQuestion (commands.Read user file) = Unit {0}
IsQuestion (commands.List file) = Unit {0}
IsQuestion commands.Epoch = Unit {0}
IsQuestion command = ⊥

-- ---- replies

-- the reply where an owner's call ends with this fault, or why there is none
abbrev pub fault_reply : OwnerFault → Result Reply Stop
fault_reply (owner.Refused why) = Ok (replies.Refused why)
fault_reply fault = Err (stop_of_owner fault)

-- the reply to a change, or why there is none
abbrev pub change_reply : Result ℕ OwnerFault → Result Reply Stop
change_reply (Ok epoch) = Ok (replies.Accepted epoch)
change_reply (Err fault) = fault_reply fault

-- the reply with this epoch, or why there is none
abbrev pub with_epoch : Result ℕ Stop → Result Reply Stop
with_epoch (Ok epoch) = Ok (replies.Epoch epoch)
with_epoch (Err stop) = Err stop

-- the reply to a question for the epoch, or why there is none: nobody is refused the epoch
abbrev pub epoch_reply : Result Welcome OwnerFault → Result Reply Stop
epoch_reply (Ok welcome) = Ok (replies.Epoch welcome.epoch)
epoch_reply (Err fault) = Err (stop_of_owner fault)

-- the reply to a question for the names in a file's list, or why there is none
abbrev pub names_reply : List ℕ → Result (List (List ℕ)) OwnerFault → Result Reply Stop
names_reply file (Ok names) = Ok (replies.List file names)
names_reply file (Err fault) = fault_reply fault

-- the reply to a read with a reader's keys, or why there is none
abbrev pub read_reply : List ℕ → List ℕ → Result (List ℕ) ClientFault → Result Reply Stop
read_reply user file (Ok bytes) = Ok (replies.Bytes user file bytes)
read_reply user file (Err (client.Refused why)) = Ok (replies.Refused why)
read_reply user file (Err fault) = Err (stop_of_client fault)

-- ---- what is asked

module _ {P : Type 0} (peer : PeerTells P) (k : Masters) where
  -- the owner makes the change of the command
  abbrev pub Changes : Command → P → P → Result Reply Stop → Type 0
  Changes command p q result =
      (e : Errand) × IsErrandFor k.base command e
      × ((made : Result ℕ OwnerFault) × Runs peer k.surface e p q made
      × (result ≡ change_reply made))

  -- the reader reads the file, or there is none and nothing more is asked
  abbrev pub ReadsWith : List ℕ → List ℕ → Result Reader OwnerFault → P → P → Result Reply Stop
      → Type 0
  ReadsWith user file (Ok r) p q result =
      (found : Result (List ℕ) ClientFault) × Reads peer p q r file found
      × (result ≡ read_reply user file found)
  ReadsWith user file (Err fault) p q result = (q ≡ p) × (result ≡ fault_reply fault)

  -- the user's root keys are asked for, and the file is read with them
  abbrev pub ReadsBy : List ℕ → List ℕ → P → P → Result Reply Stop → Type 0
  ReadsBy user file p q result =
      (made : Result Reader OwnerFault) × (m : P)
      × AsksOnce peer p m (requests.Ask (questions.Key user)) (reader_in k user) made
      × ReadsWith user file made m q result

  -- the owner or the reader that it makes asks for the command, and this is the reply
  abbrev pub Performs : Command → P → P → Result Reply Stop → Type 0
  Performs (commands.Read user file) p q result = ReadsBy user file p q result
  Performs (commands.List file) p q result =
      (told : Result (List (List ℕ)) OwnerFault)
      × AsksOnce peer p q (requests.List file) names_in told × (result ≡ names_reply file told)
  Performs commands.Epoch p q result =
      (told : Result Welcome OwnerFault)
      × AsksOnce peer p q requests.Hello welcome_in told × (result ≡ epoch_reply told)
  Performs command p q result = Changes command p q result

  -- ---- over a server that nobody else updates

  -- The reply is the machine's at this history, and what is served then is the store after the
  -- command. Or the command was cut off: by the server's disk, by the link, or for want of memory.
  abbrev pub StepsOrCut : PlainHistory → Command → P → P → Result Reply Stop → Type 0
  StepsOrCut h command p q (Ok reply) = StepsTo k command h (peer.serves q) reply
  StepsOrCut h command p q (Err stops.Device) = FailsDisk peer p q
  StepsOrCut h command p q (Err stops.Link) = Rose (peer.faults p) (peer.faults q)
  StepsOrCut h command p q (Err stops.Memory) = Unit {0}
  StepsOrCut h command p q (Err stop) = ⊥

  -- so it is over a server that nobody else updates, whose store is right under these masters
  abbrev pub IsComplete : Command → P → P → Result Reply Stop → Type 0
  IsComplete command p q result =
      (h : PlainHistory) (v : Service) → IsAlone peer → peer.serves p v → IsStoreUnder k h v
      → StepsOrCut h command p q result

  -- What a command comes to, over any peer and over such a one.
  pub record Does (command : Command) (p q : P) (result : Result Reply Stop) : Type 0 where
    pub performs : Performs command p q result
    pub complete : IsComplete command p q result

-- ---- causes

-- a stop that may come of a command: it reads no file
abbrev pub IsOfCommand : Stop → Type 0
IsOfCommand stops.Read = ⊥
IsOfCommand stops.BadKeys = ⊥
IsOfCommand stops.TooLong = ⊥
IsOfCommand stop = Unit {0}

-- The count of the peer never falls, and a fault of the link comes only where it rose. A command
-- reads no file.
pub record HasCause {P T : Type 0} (peer : PeerTells P) (p q : P) (result : Result T Stop)
    : Type 0 where
  pub later : peer.faults p ≤ peer.faults q
  pub link : result ≡ Err stops.Link → Rose (peer.faults p) (peer.faults q)
  pub kind : IfErr result IsOfCommand
