-- When an owner's call is answered.
use Rattle.std.specs.Prelude.{◌≡◌, ℕ, List, Result, Ok, Err}
use Rattle.ov_base.specs.Causes.{Rose}
use Rattle.ov_base.specs.declared.refusal.Refusal.{Refusal}
use Rattle.ov_base.specs.declared.refusal.Refusal.TheVariants.{NoUser}
use Rattle.ov_script.specs.declared.command.Command.{Command}
use Rattle.ov_script.specs.declared.command.Command.TheVariants.{List as ListNames}
use Rattle.ov_script.specs.declared.reply.Reply.{Reply}
use Rattle.ov_script.specs.declared.reply.Reply.TheVariants.{Accepted, List as Listed}
use Rattle.ov_script.specs.declared.reply.Reply.TheVariants.{Refused}
use Rattle.ov_history.specs.Masters.{Masters}
use Rattle.ov_history.specs.Plain.{PlainHistory, history_of}
use Rattle.ov_history.specs.Refusals.{IsLegal}
use Rattle.ov_history.specs.Sealing.{IsSealedSince}
use Rattle.ov_model.specs.Step.{after, reply_to}
use Rattle.ov_wire.specs.declared.answer.Welcome.{Welcome}
use Rattle.ov_protocol.specs.Answers.{welcome_of}
use Rattle.ov_protocol.specs.Serving.{Service, served}
use Rattle.ov_peer.specs.Alone.{IsAlone}
use Rattle.ov_peer.specs.Tells.{PeerTells}
use Rattle.ov_client.specs.Completeness.{FailsDisk, IsStoreUnder}
use Rattle.ov_client.specs.Readers.{Reader}
use Rattle.ov_owner.specs.Clients.{HasUser, IsReaderAt}
use Rattle.ov_owner.specs.declared.fault.OwnerFault.{OwnerFault}
use Rattle.ov_owner.specs.declared.fault.OwnerFault.TheVariants as faults

-- ---- every call

-- What is said of the result, or of the refusal, holds. Or the call was cut off: by the server's
-- disk, by the link, or because memory was refused.
abbrev pub IsSaidOrCut : {T : Type 0} → (Result T Refusal → Type 0) → (disk link : Type 0)
    → Result T OwnerFault → Type 0
IsSaidOrCut Says disk link (Ok value) = Says (Ok value)
IsSaidOrCut Says disk link (Err (faults.Refused why)) = Says (Err why)
IsSaidOrCut Says disk link (Err faults.Device) = disk
IsSaidOrCut Says disk link (Err faults.Link) = link
IsSaidOrCut Says disk link (Err faults.Memory) = Unit {0}
IsSaidOrCut Says disk link (Err fault) = ⊥

-- A call to a server that nobody else updates gives what is said of it at the history that is
-- served, by what is served then, where that is a store under these masters. Only the server's
-- disk, the link or a lack of memory cuts it off.
abbrev pub IsCompleteCall : {P T : Type 0} → PeerTells P → Masters → P → P
    → (PlainHistory → Service → (Service → Type 0) → Result T Refusal → Type 0)
    → Result T OwnerFault → Type 0
IsCompleteCall peer k p q Says result =
    (h : PlainHistory) (v : Service) → IsAlone peer → peer.serves p v → IsStoreUnder k h v
    → IsSaidOrCut (Says h v (peer.serves q)) (FailsDisk peer p q)
    (Rose (peer.faults p) (peer.faults q)) result

-- ---- what is said of each

-- what is served is the sealed form of this legal history, but for files that were gone at a start,
-- under these masters and their surface master
pub record IsStoreSince (k : Masters) (start h : PlainHistory) (v : Service) : Type 0 where
  pub surface : v.surface ≡ k.surface
  pub legal : IsLegal (history_of h)
  pub history : IsSealedSince k start h v.history

-- The machine replies so to the command at this history, and what is served then is the store after
-- it. A file that the command removes or replaces has the tag and the bytes with which it was
-- sealed there.
abbrev pub StepsTo : Masters → Command → PlainHistory → (Service → Type 0) → Reply → Type 0
StepsTo k command h Then reply =
    (reply_to h command ≡ reply)
    × ((now : Service) × IsStoreSince k h (after h command) now × Then now)

-- the machine makes an epoch of the command, or refuses it
abbrev pub SaysUpdate : Masters → Command → PlainHistory → Service → (Service → Type 0)
    → Result ℕ Refusal → Type 0
SaysUpdate k command h v Then (Ok epoch) = StepsTo k command h Then (Accepted epoch)
SaysUpdate k command h v Then (Err why) = StepsTo k command h Then (Refused why)

-- the machine lists these names for the file, or refuses that
abbrev pub SaysList : Masters → List ℕ → PlainHistory → Service → (Service → Type 0)
    → Result (List (List ℕ)) Refusal → Type 0
SaysList k file h v Then (Ok names) = StepsTo k (ListNames file) h Then (Listed file names)
SaysList k file h v Then (Err why) = StepsTo k (ListNames file) h Then (Refused why)

-- the reader holds just this user's two root keys, or the user isn't there; what is served stays
abbrev pub SaysReader : Masters → List ℕ → PlainHistory → Service → (Service → Type 0)
    → Result Reader Refusal → Type 0
SaysReader k user h v Then (Ok r) = IsReaderAt k h user r × Then v
SaysReader k user h v Then (Err why) = (why ≡ NoUser) × (HasUser h user → ⊥) × Then v

-- mode, epoch and check value are those of the store, which stays; it isn't refused
abbrev pub SaysWelcome : PlainHistory → Service → (Service → Type 0) → Result Welcome Refusal
    → Type 0
SaysWelcome h v Then (Ok welcome) = (welcome ≡ welcome_of (served v)) × Then v
SaysWelcome h v Then (Err why) = ⊥
