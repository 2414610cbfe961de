-- When an act is answered.
use Rattle.std.specs.Prelude.{◌≡◌, ◌⊎◌, ℕ, ◌≤◌, List, length, Option, Some, Ok, Err}
use Rattle.ov_base.specs.Names.{IsName}
use Rattle.ov_base.specs.declared.limits.TheConstants.{MAX_FILE_BYTES}
use Rattle.ov_tokens.specs.Keys.{check_value_of}
use Rattle.ov_client.specs.Completeness.{FailsDisk}
use Rattle.ov_client.specs.KeyLines.{IsLineOf}
use Rattle.ov_client.specs.Laws.{HasRoots, HoldsRootKeys}
use Rattle.ov_client.specs.Readers.{Reader}
use Rattle.ov_history.specs.Masters.{Masters}
use Rattle.ov_history.specs.Plain.{PlainHistory, history_of}
use Rattle.ov_history.specs.Refusals.{IsLegal}
use Rattle.ov_history.specs.Sealing.{IsSealedAs}
use Rattle.ov_keyfile.specs.KeyFile.{IsKeyFile}
use Rattle.ov_peer.specs.Alone.{IsAlone}
use Rattle.ov_peer.specs.Tells.{PeerTells}
use Rattle.ov_protocol.specs.Serving.{Service}
use Rattle.ov_acts.specs.Machine.{StoresBytes}
use Rattle.ov_acts.specs.Stops.{Outcome}
use Rattle.ov_acts.specs.declared.job.Act.{Act}
use Rattle.ov_acts.specs.declared.job.Act.TheVariants.{Check, Key, List as ListNames, Read}
use Rattle.ov_acts.specs.declared.stop.Stop.TheVariants as stops

-- ---- the server

-- What is served is a legal history as these masters seal it, with the check value of the base
-- master.
pub record IsStoreOf (k : Masters) (h : PlainHistory) (v : Service) : Type 0 where
  pub surface : v.surface ≡ k.surface
  pub check : v.base_check ≡ check_value_of k.base
  pub legal : IsLegal (history_of h)
  pub history : IsSealedAs k h v.history

-- ---- the files

-- the key file has these masters, and the file to be stored, where the act has one, few enough
-- bytes
pub record HasOwnersFiles (act : Act) (keys body : Option (List ℕ)) (k : Masters) : Type 0 where
  pub file : List ℕ
  pub told : keys ≡ Some file
  pub masters : IsKeyFile file k.base k.surface
  pub bytes : List ℕ
  pub stores : StoresBytes act body bytes
  pub few : length bytes ≤ MAX_FILE_BYTES

-- the user key line is that of a reader with the user's root keys at this history
pub record HasReadersLine (keys : Option (List ℕ)) (k : Masters) (h : PlainHistory) : Type 0 where
  pub line : List ℕ
  pub told : keys ≡ Some line
  pub reader : Reader
  pub is : IsLineOf line reader
  pub holds : HoldsRootKeys k reader
  pub roots : HasRoots h reader

-- the files that the act reads are right for this store
abbrev pub HasFilesFor : Act → Option (List ℕ) → Option (List ℕ) → Masters → PlainHistory → Type 0
HasFilesFor (Read file) keys body k h = HasReadersLine keys k h
HasFilesFor act keys body k h = HasOwnersFiles act keys body k

-- ---- the end

-- What is asked for is done, or the machine refuses it; or a fault ended the act: of the server's
-- disk (4), where there was such a one, of a file that is read (5), of standard output (6), of
-- memory (7), or of the link (8).
abbrev pub IsAnswered : Type 0 → ℕ → Type 0
IsAnswered disk status =
    (status ≡ 0) ⊎ (status ≡ 3) ⊎ ((status ≡ 4) × disk) ⊎ ((5 ≤ status) × (status ≤ 8))

-- Every act is answered by a server that nobody else updates, where its files are right: its keys
-- are those of the store, each reply is an answer, no file is damaged, and one try is enough. The
-- check value needs the key file alone.
pub record IsComplete {P : Type 0} (peer : PeerTells P) (act : Act)
    (keys body : Option (List ℕ)) (p q : P) (status : ℕ) : Type 0 where
  pub over_server : (k : Masters) (h : PlainHistory) (v : Service)
      → IsAlone peer → peer.serves p v → IsStoreOf k h v → HasFilesFor act keys body k h
      → IsAnswered (FailsDisk peer p q) status
  pub check : (k : Masters) → act ≡ Check → HasOwnersFiles act keys body k → IsAnswered ⊥ status

-- ---- inner: no public contract needs the rest

-- The outcome of an act that is answered: bytes, or a refusal, a failed read, refused memory, a
-- fault of the link, or one of the server's disk where there was such a one.
abbrev pub IsAnsweredOr : Type 0 → Outcome → Type 0
IsAnsweredOr disk (Ok bytes) = Unit {0}
IsAnsweredOr disk (Err (stops.Refused why)) = Unit {0}
IsAnsweredOr disk (Err stops.Device) = disk
IsAnsweredOr disk (Err stops.Read) = Unit {0}
IsAnsweredOr disk (Err stops.Memory) = Unit {0}
IsAnsweredOr disk (Err stops.Link) = Unit {0}
IsAnsweredOr disk (Err stop) = ⊥

-- what an act asks by is a name, where it asks one question
abbrev pub AsksByName : Act → Type 0
AsksByName (ListNames file) = IsName file
AsksByName (Key user) = IsName user
AsksByName act = Unit {0}
