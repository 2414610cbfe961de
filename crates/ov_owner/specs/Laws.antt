-- The laws of an owner's talks.
use Rattle.std.specs.Prelude.{◌≡◌, ℕ, ◌+◌, ◌*◌, ◌≤◌, List, [], ◌∷◌, length, Option, Result}
use Rattle.std.specs.Prelude.{Err}
use Rattle.ov_base.specs.Sets.{size}
use Rattle.ov_script.specs.declared.command.Command.{Command}
use Rattle.ov_script.specs.declared.command.Command.TheVariants.{Create, Replace}
use Rattle.ov_history.specs.History.{file_at, matrix_of}
use Rattle.ov_history.specs.Lists.{file_number}
use Rattle.ov_history.specs.Masters.{Masters}
use Rattle.ov_history.specs.Plain.{PlainHistory, history_of}
use Rattle.ov_history.specs.Refusals.{IsLegal}
use Rattle.ov_history.specs.Sealed.{SealedHistory}
use Rattle.ov_history.specs.Sealing.{IsSealedAs}
use Rattle.ov_wire.specs.Frames.{framed}
use Rattle.ov_protocol.specs.Serving.{Service}
use Rattle.ov_peer.specs.Asks.{Along, AreRight, Ask}
use Rattle.ov_client.specs.Rising.{Rises}
use Rattle.ov_owner.specs.Alone.{AskedAlone, IsOneOrNone}
use Rattle.ov_owner.specs.Errands.{Errand}
use Rattle.ov_owner.specs.Steps.{IsErrandFor, IsMachines}
use Rattle.ov_owner.specs.Talks.{Talks}
use Rattle.ov_owner.specs.declared.limits.TheConstants.{MAX_TRIES}
use Rattle.ov_owner.specs.declared.fault.OwnerFault.{OwnerFault}
use Rattle.ov_owner.specs.declared.fault.OwnerFault.TheVariants.{BadReply, BadTag, Unsettled}

-- An Accepted and a Refused of a talk are what the machine replies at the history that the server
-- had at the last of its asks, whatever others update in between, where the asks are answered under
-- the owner's surface master at histories that are right.
abbrev pub TalksAreSteps : Type 0
TalksAreSteps =
    (k : Masters) (command : Command) (e : Errand) (asks : List Ask) (unanswered : Option (List ℕ))
    (result : Result ℕ OwnerFault) (v last : Service) (histories : List SealedHistory)
    → IsErrandFor k.base command e → Talks k.surface e asks unanswered result
    → v.surface ≡ k.surface → Along v asks histories last → AreRight k histories
    → IsMachines k command histories last.history result

-- the epochs of tries that were all stale rise, and are as many as the tries
abbrev pub StaleEpochsRise : Type 0
StaleEpochsRise =
    (surface base : List ℕ) (command : Command) (e : Errand) (asks : List Ask)
    (unanswered : Option (List ℕ)) (epochs : List ℕ)
    → IsErrandFor base command e → Talks surface e asks unanswered (Err (Unsettled epochs))
    → (length epochs ≡ MAX_TRIES) × Rises epochs

-- Of a server under the owner's surface master that nobody else updates meanwhile, and whose
-- history is right by a plain one, a call leaves what is right by this, or the sealed form of this
-- with the update of its command, but for files that were gone before. It does so after memory was
-- refused and after a fault too.
abbrev pub OneUpdateAtMost : Type 0
OneUpdateAtMost =
    (k : Masters) (command : Command) (e : Errand) (asks : List Ask) (unanswered : Option (List ℕ))
    (result : Result ℕ OwnerFault) (v last : Service) (p : PlainHistory)
    → IsErrandFor k.base command e → Talks k.surface e asks unanswered result
    → v.surface ≡ k.surface → IsLegal (history_of p) → IsSealedAs k p v.history
    → AskedAlone v asks unanswered last → IsOneOrNone k p command last.history

-- how many bytes the frames of these asks have, with their length fields
abbrev pub frame_bytes : List Ask → ℕ
frame_bytes [] = 0
frame_bytes (a ∷ asks) = length (framed a.request) + length (framed a.reply) + frame_bytes asks

-- how many users are in the list of the file of this name after the history
abbrev pub list_size : PlainHistory → List ℕ → ℕ
list_size p file =
    let m = matrix_of (history_of p) in size (file_at m (file_number m file)).list

-- how many bytes the frames of a call have at most at a history: only a creation's and a
-- replacement's are as many as the list and the new file make them
abbrev pub most_bytes : PlainHistory → Command → ℕ
most_bytes p (Create file names bytes) = 512 + 101 * length names + length bytes
most_bytes p (Replace file bytes) = 384 + 36 * list_size p file + length bytes
most_bytes p command = 512

-- Of a server under the owner's surface master that nobody else updates meanwhile, and whose
-- history is right by a plain one, the frames of a call have no more bytes than the command allows
-- at this, whatever bytes its files have.
abbrev pub TalksAreShort : Type 0
TalksAreShort =
    (k : Masters) (command : Command) (e : Errand) (asks : List Ask) (unanswered : Option (List ℕ))
    (result : Result ℕ OwnerFault) (v last : Service) (p : PlainHistory)
    → IsErrandFor k.base command e → Talks k.surface e asks unanswered result
    → v.surface ≡ k.surface → IsLegal (history_of p) → IsSealedAs k p v.history
    → AskedAlone v asks unanswered last → frame_bytes asks ≤ most_bytes p command

-- the result is neither a wrong reply, nor a wrong tag, nor tries that were all stale
abbrev pub IsProper : Result ℕ OwnerFault → Type 0
IsProper (Err (BadReply place)) = ⊥
IsProper (Err BadTag) = ⊥
IsProper (Err (Unsettled epochs)) = ⊥
IsProper result = Unit {0}

-- Of a server under the owner's surface master that nobody else updates meanwhile, and whose
-- history is right, no call ends with a wrong reply, a wrong tag, or tries that were all stale.
abbrev pub TalksAreProper : Type 0
TalksAreProper =
    (k : Masters) (command : Command) (e : Errand) (asks : List Ask) (unanswered : Option (List ℕ))
    (result : Result ℕ OwnerFault) (v last : Service) (p : PlainHistory)
    → IsErrandFor k.base command e → Talks k.surface e asks unanswered result
    → v.surface ≡ k.surface → IsLegal (history_of p) → IsSealedAs k p v.history
    → AskedAlone v asks unanswered last → IsProper result
