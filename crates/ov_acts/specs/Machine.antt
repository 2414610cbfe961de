-- What comes of an act, by the access-matrix machine, at a server that tells what it serves.
use Rattle.std.specs.Prelude.{◌≡◌, ℕ, List, [], Option, Some, Ok, Err}
use Rattle.ov_client.specs.KeyLines.{IsLineOf, key_line}
use Rattle.ov_client.specs.Laws.{HoldsRootKeys}
use Rattle.ov_client.specs.Readers.{Reader}
use Rattle.ov_client.specs.Told.{ReadsAlong}
use Rattle.ov_client.specs.declared.fault.ClientFault.TheVariants as faults
use Rattle.ov_base.specs.declared.refusal.Refusal.TheVariants.{NoUser}
use Rattle.ov_history.specs.Masters.{Masters}
use Rattle.ov_keyfile.specs.KeyFile.{IsKeyFile}
use Rattle.ov_owner.specs.Clients.{HasUser, IsReaderAt, IsSoThere}
use Rattle.ov_owner.specs.Questions.{RepliesThere}
use Rattle.ov_owner.specs.Steps.{AnswersAsMachine}
use Rattle.ov_protocol.specs.Serving.{Service, later}
use Rattle.ov_record.specs.Updates.{SealedUpdate}
use Rattle.ov_script.specs.declared.command.Command.{Command}
use Rattle.ov_script.specs.declared.command.Command.TheVariants as commands
use Rattle.ov_script.specs.declared.reply.Reply.TheVariants as replies
use Rattle.ov_acts.specs.Acts.{list_line, update_line}
use Rattle.ov_acts.specs.Stops.{Outcome}
use Rattle.ov_acts.specs.declared.job.Act.{Act}
use Rattle.ov_acts.specs.declared.job.Act.TheVariants.{Check, Create, Enrol, Grant, Key}
use Rattle.ov_acts.specs.declared.job.Act.TheVariants.{List as ListNames, Read, Remove, Replace, Revoke}
use Rattle.ov_acts.specs.declared.stop.Stop.TheVariants.{Damaged, Refused}

-- ---- an owner's acts

-- The line that is printed is on an update that the machine accepts, and a refusal is its own, at a
-- history that goes on from the one that was served, where that is right under these masters.
abbrev pub UpdatesAsMachine : Masters → Command → Service → (Service → Type 0) → Outcome → Type 0
UpdatesAsMachine k command v Then (Ok line) =
    (epoch : ℕ) × (line ≡ update_line epoch)
    × AnswersAsMachine k command v Then (replies.Accepted epoch)
UpdatesAsMachine k command v Then (Err (Refused why)) =
    AnswersAsMachine k command v Then (replies.Refused why)
UpdatesAsMachine k command v Then (Err stop) = Unit {0}

-- the names that are printed are the machine's at what is served, and so is a refusal
abbrev pub ListsAsMachine : Service → (Service → Type 0) → List ℕ → Outcome → Type 0
ListsAsMachine v Then file (Ok line) =
    (names : List (List ℕ)) × (line ≡ list_line file names)
    × RepliesThere v Then (commands.List file) (replies.List file names)
ListsAsMachine v Then file (Err (Refused why)) =
    RepliesThere v Then (commands.List file) (replies.Refused why)
ListsAsMachine v Then file (Err stop) = Unit {0}

-- the key line that is printed holds just this user's two root keys at what is served, and a user
-- who is refused isn't there
abbrev pub HandsKeys : Masters → Service → (Service → Type 0) → List ℕ → Outcome → Type 0
HandsKeys k v Then user (Ok line) =
    (r : Reader) × (line ≡ key_line r) × IsSoThere k v Then (λ p. IsReaderAt k p user r)
HandsKeys k v Then user (Err (Refused why)) =
    IsSoThere k v Then (λ p. (why ≡ NoUser) × (HasUser p user → ⊥))
HandsKeys k v Then user (Err stop) = Unit {0}

-- what an owner's act at a server comes to is the machine's, where these bytes are stored
abbrev pub CommandsAsMachine : Masters → Act → List ℕ → Service → (Service → Type 0) → Outcome
    → Type 0
CommandsAsMachine k (Enrol user) bytes v Then outcome =
    UpdatesAsMachine k (commands.Enrol user) v Then outcome
CommandsAsMachine k (Grant user file) bytes v Then outcome =
    UpdatesAsMachine k (commands.Grant user file) v Then outcome
CommandsAsMachine k (Revoke user file) bytes v Then outcome =
    UpdatesAsMachine k (commands.Revoke user file) v Then outcome
CommandsAsMachine k (Remove file) bytes v Then outcome =
    UpdatesAsMachine k (commands.Remove file) v Then outcome
CommandsAsMachine k (Create file list) bytes v Then outcome =
    UpdatesAsMachine k (commands.Create file list bytes) v Then outcome
CommandsAsMachine k (Replace file) bytes v Then outcome =
    UpdatesAsMachine k (commands.Replace file bytes) v Then outcome
CommandsAsMachine k (ListNames file) bytes v Then outcome = ListsAsMachine v Then file outcome
CommandsAsMachine k (Key user) bytes v Then outcome = HandsKeys k v Then user outcome
CommandsAsMachine k act bytes v Then outcome = Unit {0}

-- What an owner's act comes to is the machine's, after the server was asked for its check value and
-- others made updates meanwhile. Other faults than a refusal say nothing.
abbrev pub OwnsAsMachine : Masters → Act → List ℕ → Service → (Service → Type 0) → Outcome → Type 0
OwnsAsMachine k act bytes v Then (Ok line) =
    (others : List SealedUpdate) × CommandsAsMachine k act bytes (later v others) Then (Ok line)
OwnsAsMachine k act bytes v Then (Err (Refused why)) =
    (others : List SealedUpdate)
    × CommandsAsMachine k act bytes (later v others) Then (Err (Refused why))
OwnsAsMachine k act bytes v Then (Err stop) = Unit {0}

-- ---- a reader's

-- Bytes that are printed are the machine's, and so is a refusal, where the histories by which the
-- asks were answered are right under these masters; and damaged bytes never come there.
abbrev pub ReadsAsMachine : Masters → Reader → List ℕ → Service → (Service → Type 0) → Outcome
    → Type 0
ReadsAsMachine k r file v Then (Ok bytes) = ReadsAlong k r file v Then (Ok bytes)
ReadsAsMachine k r file v Then (Err (Refused why)) =
    ReadsAlong k r file v Then (Err (faults.Refused why))
ReadsAsMachine k r file v Then (Err Damaged) =
    (stored : List ℕ) × (computed : List ℕ)
    × ReadsAlong k r file v Then (Err (faults.Damaged stored computed))
ReadsAsMachine k r file v Then (Err stop) = Unit {0}

-- ---- all acts

-- these are the bytes that the act stores, of a file that tells them
abbrev pub StoresBytes : Act → Option (List ℕ) → List ℕ → Type 0
StoresBytes (Create file list) body bytes = body ≡ Some bytes
StoresBytes (Replace file) body bytes = body ≡ Some bytes
StoresBytes act body bytes = bytes ≡ []

-- What an owner's act comes to is the machine's, where its files tell their bytes and the key file
-- has the surface master that is served under.
abbrev pub OwnersAsMachine : Act → Option (List ℕ) → Option (List ℕ) → Service
    → (Service → Type 0) → Outcome → Type 0
OwnersAsMachine act keys body v Then outcome =
    (file bytes : List ℕ) (k : Masters) → keys ≡ Some file → IsKeyFile file k.base k.surface
    → StoresBytes act body bytes → v.surface ≡ k.surface
    → OwnsAsMachine k act bytes v Then outcome

-- What a reader's act comes to is the machine's, where the file tells the reader's key line, and
-- the keys are those of the reader's roots under masters of which the surface master is the one
-- that is served under.
abbrev pub ReadersAsMachine : List ℕ → Option (List ℕ) → Service → (Service → Type 0) → Outcome
    → Type 0
ReadersAsMachine file keys v Then outcome =
    (line : List ℕ) (r : Reader) (k : Masters) → keys ≡ Some line → IsLineOf line r
    → HoldsRootKeys k r → v.surface ≡ k.surface → ReadsAsMachine k r file v Then outcome

-- what an act comes to is the machine's; the check value comes of the key file alone
abbrev pub ActsAsMachine : Act → Option (List ℕ) → Option (List ℕ) → Service → (Service → Type 0)
    → Outcome → Type 0
ActsAsMachine (Read file) keys body v Then outcome = ReadersAsMachine file keys v Then outcome
ActsAsMachine Check keys body v Then outcome = Unit {0}
ActsAsMachine act keys body v Then outcome = OwnersAsMachine act keys body v Then outcome
