-- What is put of the talks of owners and readers to a server that nobody else updates.
use Rattle.std.specs.Prelude.{◌≡◌, ◌⊎◌, ℕ, List, [], ◌++◌, take, Option, Some, None}
use Rattle.std.specs.Prelude.{Result, Ok, Err}
use Rattle.ov_fields.specs.Fronts.{AreAllBytes}
use Rattle.ov_record.specs.Updates.{SealedUpdate}
use Rattle.ov_script.specs.declared.command.Command.{Command}
use Rattle.ov_script.specs.declared.command.Command.TheVariants as commands
use Rattle.ov_history.specs.Masters.{Masters}
use Rattle.ov_history.specs.Plain.{PlainHistory}
use Rattle.ov_wire.specs.declared.answer.Answer.{Answer}
use Rattle.ov_wire.specs.AnswerReading.{answer_of}
use Rattle.ov_wire.specs.Frames.{framed}
use Rattle.ov_wire.specs.Requests.{HasRequestForm, request_bytes}
use Rattle.ov_protocol.specs.Serving.{Service}
use Rattle.ov_peer.specs.Asks.{Ask}
use Rattle.ov_peer.specs.Tells.{IsReplyAt}
use Rattle.ov_client.specs.declared.fault.ClientFault.{ClientFault}
use Rattle.ov_client.specs.declared.fault.ClientFault.TheVariants as client
use Rattle.ov_owner.specs.declared.fault.OwnerFault.{OwnerFault}
use Rattle.ov_owner.specs.declared.fault.OwnerFault.TheVariants as owner
use Rattle.ov_transcript.specs.Transcripts.{first_request, service_of}

-- What was put of an ask that failed: a front of the request, or the request and a front of what
-- was replied.
abbrev pub IsPut : Service → List ℕ → List ℕ → Type 0
IsPut v request bytes =
    ((n : ℕ) × (bytes ≡ take n (framed request)))
    ⊎ ((reply : List ℕ) × (made : List SealedUpdate) × (n : ℕ)
    × IsReplyAt v request reply made × (bytes ≡ framed request ++ take n (framed reply)))

-- what was put of the ask that failed, if one did; nothing where none did
abbrev pub ArePut : Service → Option (List ℕ) → List ℕ → Type 0
ArePut v None bytes = bytes ≡ []
ArePut v (Some request) bytes = IsPut v request bytes

-- an owner's call was answered: the update was accepted or refused
abbrev pub IsAnswered : Result ℕ OwnerFault → Type 0
IsAnswered (Ok epoch) = Unit {0}
IsAnswered (Err (owner.Refused why)) = Unit {0}
IsAnswered (Err fault) = ⊥

-- a read was answered: with bytes, or refused
abbrev pub IsReadAnswered : Result (List ℕ) ClientFault → Type 0
IsReadAnswered (Ok bytes) = Unit {0}
IsReadAnswered (Err (client.Refused why)) = Unit {0}
IsReadAnswered (Err fault) = ⊥

-- what is asked first for a command was asked, and replied to at this history
pub record IsFirstAsk (k : Masters) (p : PlainHistory) (command : Command) (a : Ask) : Type 0 where
  pub form : HasRequestForm (first_request command)
  pub asked : a.request ≡ request_bytes (first_request command)
  pub made : List SealedUpdate
  pub replied : IsReplyAt (service_of k p) a.request a.reply made

-- a reply to what is asked first for a command reads as this answer
pub record ReadsAs (command : Command) (reply : List ℕ) (answer : Answer) : Type 0 where
  pub bytes : AreAllBytes reply
  pub reads : answer_of (first_request command) reply ≡ Ok answer

-- the command is a single question
abbrev pub IsOneQuestion : Command → Type 0
IsOneQuestion (commands.List file) = Unit {0}
IsOneQuestion commands.Epoch = Unit {0}
IsOneQuestion command = ⊥
