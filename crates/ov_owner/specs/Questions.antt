-- One question to a server, and what comes of it.
use Rattle.std.specs.Prelude.{◌≡◌, ◌⊎◌, ℕ, List, Result, Ok, Err}
use Rattle.ov_record.specs.Updates.{SealedUpdate}
use Rattle.ov_history.specs.Masters.{Masters}
use Rattle.ov_history.specs.Plain.{PlainHistory, history_of}
use Rattle.ov_history.specs.Refusals.{IsLegal}
use Rattle.ov_history.specs.Sealing.{IsSealedAs}
use Rattle.ov_wire.specs.declared.request.Request.{Request}
use Rattle.ov_wire.specs.declared.answer.Welcome.{Welcome}
use Rattle.ov_wire.specs.declared.answer.Answer.{Answer}
use Rattle.ov_wire.specs.declared.answer.Answer.TheVariants as answers
use Rattle.ov_wire.specs.Requests.{request_bytes}
use Rattle.ov_script.specs.declared.command.Command.{Command}
use Rattle.ov_script.specs.declared.command.Command.TheVariants.{List as ListNames}
use Rattle.ov_script.specs.declared.reply.Reply.{Reply}
use Rattle.ov_script.specs.declared.reply.Reply.TheVariants.{List as Listed, Refused}
use Rattle.ov_model.specs.Step.{reply_to}
use Rattle.ov_protocol.specs.Serving.{Service, later, served}
use Rattle.ov_protocol.specs.Answers.{welcome_of}
use Rattle.ov_peer.specs.Exchanges.{Answered, Forgets}
use Rattle.ov_peer.specs.Tells.{PeerTells}
use Rattle.ov_owner.specs.declared.fault.OwnerFault.{OwnerFault}
use Rattle.ov_owner.specs.declared.fault.OwnerFault.TheVariants as faults

-- what a Welcome says, or why the call ends
abbrev pub welcome_in : Answer → Result Welcome OwnerFault
welcome_in (answers.Welcome welcome) = Ok welcome
welcome_in answers.NoMemory = Err faults.Memory
welcome_in answer = Err (faults.BadReply 0)

-- the names that are listed, or why the call ends
abbrev pub names_in : Answer → Result (List (List ℕ)) OwnerFault
names_in (answers.Listed names) = Ok names
names_in (answers.Refused why) = Err (faults.Refused why)
names_in answers.NoMemory = Err faults.Memory
names_in answer = Err (faults.BadReply 0)

-- what is taken of a reply, where it reads as an answer
abbrev pub taken : {T : Type 0} → (Answer → Result T OwnerFault) → Result Answer ℕ
    → Result T OwnerFault
taken take (Ok answer) = take answer
taken take (Err place) = Err (faults.BadReply place)

-- no reply was read: the ask failed, or memory ran out before it, in it or after it
abbrev pub IsUnread : {P T : Type 0} → PeerTells P → P → P → Request → Result T OwnerFault → Type 0
IsUnread peer p q request result =
    ((result ≡ Err faults.Link) × peer.failed p (request_bytes request) q)
    ⊎ ((result ≡ Err faults.Memory) × Forgets peer p q request)

-- one request was asked, and this is what is taken of the reply; or none was read
abbrev pub AsksOnce : {P T : Type 0} → PeerTells P → P → P → Request
    → (Answer → Result T OwnerFault) → Result T OwnerFault → Type 0
AsksOnce peer p q request take result =
    ((read : Result Answer ℕ) × Answered peer p q request read × (result ≡ taken take read))
    ⊎ IsUnread peer p q request result

-- what was welcomed is what is served: this history, with what others made of it
abbrev pub IsWelcomeOf : Service → (Service → Type 0) → Result Welcome OwnerFault → Type 0
IsWelcomeOf v Then (Ok welcome) =
    (others : List SealedUpdate)
    × (welcome ≡ welcome_of (served (later v others))) × Then (later v others)
IsWelcomeOf v Then (Err fault) = Unit {0}

-- what is served is this history, with what others made of it, and there the machine replies so to
-- the command, at each legal history by which it is right
abbrev pub RepliesThere : Service → (Service → Type 0) → Command → Reply → Type 0
RepliesThere v Then command reply =
    (others : List SealedUpdate) × Then (later v others)
    × ((k : Masters) (p : PlainHistory) → v.surface ≡ k.surface → IsLegal (history_of p)
    → IsSealedAs k p (later v others).history → reply_to p command ≡ reply)

-- names that are listed, and a refusal, are the machine's reply at what is served
abbrev pub IsListOf : Service → (Service → Type 0) → List ℕ → Result (List (List ℕ)) OwnerFault
    → Type 0
IsListOf v Then file (Ok names) = RepliesThere v Then (ListNames file) (Listed file names)
IsListOf v Then file (Err (faults.Refused why)) =
    RepliesThere v Then (ListNames file) (Refused why)
IsListOf v Then file (Err fault) = Unit {0}
