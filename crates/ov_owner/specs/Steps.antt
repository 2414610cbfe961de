-- What a result of an owner is at the histories by which its asks were answered.
use Rattle.std.specs.Prelude.{◌≡◌, ℕ, List, [], ◌∷◌, Result, Ok, Err}
use Rattle.ov_script.specs.declared.command.Command.{Command}
use Rattle.ov_script.specs.declared.command.Command.TheVariants.{Enrol, Create, Grant, Revoke}
use Rattle.ov_script.specs.declared.command.Command.TheVariants.{Remove, Replace}
use Rattle.ov_script.specs.declared.reply.Reply.{Reply}
use Rattle.ov_script.specs.declared.reply.Reply.TheVariants as replies
use Rattle.ov_history.specs.Masters.{Masters}
use Rattle.ov_history.specs.Plain.{PlainHistory, history_of}
use Rattle.ov_history.specs.Refusals.{IsLegal}
use Rattle.ov_history.specs.Sealed.{SealedHistory}
use Rattle.ov_history.specs.Sealing.{IsSealedAs, IsSealedSince}
use Rattle.ov_model.specs.Step.{after, reply_to}
use Rattle.ov_protocol.specs.Serving.{Service}
use Rattle.ov_peer.specs.Asks.{Along, AreRight, Ask}
use Rattle.ov_owner.specs.Errands.{Errand, creating, enrolling, granting, removing, replacing}
use Rattle.ov_owner.specs.Errands.{revoking}
use Rattle.ov_owner.specs.declared.fault.OwnerFault.{OwnerFault}
use Rattle.ov_owner.specs.declared.fault.OwnerFault.TheVariants as faults

-- the errand is what an owner with this base master does for the command
abbrev pub IsErrandFor : List ℕ → Command → Errand → Type 0
IsErrandFor base (Enrol user) e = e ≡ enrolling user
IsErrandFor base (Create file names bytes) e = e ≡ creating base file names bytes
IsErrandFor base (Grant user file) e = e ≡ granting base user file
IsErrandFor base (Revoke user file) e = e ≡ revoking user file
IsErrandFor base (Remove file) e = e ≡ removing file
IsErrandFor base (Replace file bytes) e = e ≡ replacing base file bytes
IsErrandFor base command e = ⊥

-- The machine replies so to the command at a legal history by which the one that answered an ask is
-- right, and what is served then is the sealed form of the history after it, but for files that
-- were gone before it.
pub record IsStep (k : Masters) (command : Command) (reply : Reply)
    (answered last : SealedHistory) : Type 0 where
  pub before : PlainHistory
  pub legal : IsLegal (history_of before)
  pub same : IsSealedAs k before answered
  pub replied : reply_to before command ≡ reply
  pub next : IsSealedSince k before (after before command) last

-- The machine replies so to the command at the last of these histories, and what is served then is
-- that of the history after it.
abbrev pub IsLastStep : Masters → Command → Reply → List SealedHistory → SealedHistory → Type 0
IsLastStep k command reply [] last = ⊥
IsLastStep k command reply (answered ∷ []) last = IsStep k command reply answered last
IsLastStep k command reply (earlier ∷ (answered ∷ more)) last =
    IsLastStep k command reply (answered ∷ more) last

-- an Accepted and a Refused are the machine's replies at the history of the last ask
abbrev pub IsMachines : Masters → Command → List SealedHistory → SealedHistory
    → Result ℕ OwnerFault → Type 0
IsMachines k command histories last (Ok epoch) =
    IsLastStep k command (replies.Accepted epoch) histories last
IsMachines k command histories last (Err (faults.Refused why)) =
    IsLastStep k command (replies.Refused why) histories last
IsMachines k command histories last (Err fault) = Unit {0}

-- Asks were answered along histories that go on from the one that was served, and what is served
-- then goes on from them. Where they are right, the machine replies so to the command at the last.
abbrev pub AnswersAsMachine : Masters → Command → Service → (Service → Type 0) → Reply → Type 0
AnswersAsMachine k command v Then reply =
    (asks : List Ask) × (histories : List SealedHistory) × (last : Service)
    × Along v asks histories last × Then last
    × (AreRight k histories → IsLastStep k command reply histories last.history)

-- An Accepted and a Refused are the machine's replies at the history of the last ask, where the
-- owner's surface master is the one served under. Other faults say nothing.
abbrev pub IsOwnersReply : Masters → Command → Service → (Service → Type 0) → Result ℕ OwnerFault
    → Type 0
IsOwnersReply k command v Then (Ok epoch) =
    AnswersAsMachine k command v Then (replies.Accepted epoch)
IsOwnersReply k command v Then (Err (faults.Refused why)) =
    AnswersAsMachine k command v Then (replies.Refused why)
IsOwnersReply k command v Then (Err fault) = Unit {0}
