-- What a read gives over a peer that tells its history.
use Rattle.std.specs.Prelude.{◌≡◌, ℕ, ◌==◌, Bool, true, false, List, [], ◌∷◌}
use Rattle.std.specs.Prelude.{Option, Some, None, Result, Ok, Err}
use Rattle.ov_tokens.specs.declared.label.Kind.TheVariants.{Derive, Surface}
use Rattle.ov_tokens.specs.Keys.{node_key}
use Rattle.ov_history.specs.FadingLaws.{IsRight}
use Rattle.ov_history.specs.History.{matrix_of}
use Rattle.ov_history.specs.Layers.{layers_of, root_of}
use Rattle.ov_history.specs.Lists.{file_number, user_number}
use Rattle.ov_history.specs.Masters.{Masters}
use Rattle.ov_history.specs.Plain.{PlainHistory, bytes_of, history_of}
use Rattle.ov_history.specs.Refusals.{read_refusal}
use Rattle.ov_history.specs.Sealed.{SealedHistory}
use Rattle.ov_protocol.specs.Serving.{Service}
use Rattle.ov_peer.specs.Asks.{Along, AreRight, Ask}
use Rattle.ov_client.specs.Readers.{Reader}
use Rattle.ov_client.specs.Talks.{Talks}
use Rattle.ov_client.specs.declared.fault.ClientFault.{ClientFault}
use Rattle.ov_client.specs.declared.fault.ClientFault.TheVariants.{BadReply, Damaged, Refused}
use Rattle.ov_client.specs.declared.fault.ClientFault.TheVariants.{Unsettled}

-- the reader's keys are those of its roots, under these masters
pub record HoldsRootKeys (k : Masters) (r : Reader) : Type 0 where
  pub base : r.base ≡ node_key Derive k.base r.base_root
  pub surface : r.surface ≡ node_key Surface k.surface r.surface_root

-- whether a frame is a Chain, by its kind byte
abbrev pub is_chain : List ℕ → Bool
is_chain [] = false
is_chain (kind ∷ body) = kind == 5

-- this history where the test says so, and the one before where not
abbrev pub now_if : Bool → SealedHistory → Option SealedHistory → Option SealedHistory
now_if true g before = Some g
now_if false g before = before

-- the history at which the last Chain of these asks was answered, or the one from before them
abbrev pub last_chain : Option SealedHistory → List Ask → List SealedHistory
    → Option SealedHistory
last_chain before [] histories = before
last_chain before (a ∷ asks) [] = before
last_chain before (a ∷ asks) (g ∷ histories) =
    last_chain (now_if (is_chain a.request) g before) asks histories

-- what the machine answers to a read at this history, by the names of a user and a file: the file's
-- bytes where nothing is refused
abbrev pub IsReadAt : PlainHistory → List ℕ → List ℕ → Result (List ℕ) ClientFault → Type 0
IsReadAt p user file (Ok bytes) =
    let m = matrix_of (history_of p) in
    (read_refusal m (user_number m user) (file_number m file) ≡ None)
    × (bytes ≡ bytes_of p (file_number m file))
IsReadAt p user file (Err (Refused why)) =
    let m = matrix_of (history_of p) in
    read_refusal m (user_number m user) (file_number m file) ≡ Some why
IsReadAt p user file (Err fault) = ⊥

-- the history is right for a legal one, at which the machine answers so to a read
abbrev pub MachineAnswers : Masters → Option SealedHistory → List ℕ → List ℕ
    → Result (List ℕ) ClientFault → Type 0
MachineAnswers k at_one user file result =
    (p : PlainHistory) × (g : SealedHistory) × (at_one ≡ Some g) × IsRight k p g
    × IsReadAt p user file result

-- bytes and refusals are the machine's, and no read is damaged; of other faults this says nothing
abbrev pub IsAsMachine : Masters → Option SealedHistory → List ℕ → List ℕ
    → Result (List ℕ) ClientFault → Type 0
IsAsMachine k at_one user file (Ok bytes) = MachineAnswers k at_one user file (Ok bytes)
IsAsMachine k at_one user file (Err (Refused why)) =
    MachineAnswers k at_one user file (Err (Refused why))
IsAsMachine k at_one user file (Err (Damaged stored computed)) = ⊥
IsAsMachine k at_one user file (Err fault) = Unit {0}

-- Asks that were answered along histories, each of which is right under the masters of the reader's
-- root keys, read as the machine does at the history of the last Chain.
abbrev pub ReadsAreTheMachines : Type 0
ReadsAreTheMachines =
    (k : Masters) (r : Reader) (file : List ℕ) (asks : List Ask) (unanswered : Option (List ℕ))
    (result : Result (List ℕ) ClientFault)
    (v last : Service) (histories : List SealedHistory)
    → HoldsRootKeys k r → v.surface ≡ k.surface
    → Talks r file asks unanswered result
    → Along v asks histories last → AreRight k histories
    → IsAsMachine k (last_chain None asks histories) r.name file result

-- ---- a history that nobody changes meanwhile

-- the reader's roots are those of the user of its name at this history
pub record HasRoots (p : PlainHistory) (r : Reader) : Type 0 where
  pub base : r.base_root
      ≡ root_of (layers_of (history_of p)).base (user_number (matrix_of (history_of p)) r.name)
  pub surface : r.surface_root
      ≡ root_of (layers_of (history_of p)).surface (user_number (matrix_of (history_of p)) r.name)

-- each of these histories is this one
abbrev pub AllAre : SealedHistory → List SealedHistory → Type 0
AllAre g [] = Unit {0}
AllAre g (other ∷ histories) = (other ≡ g) × AllAre g histories

-- the read gave bytes or a refusal, or was cut off: by the link, by the server's disk, or because
-- memory was refused
abbrev pub IsAnsweredOrCut : Result (List ℕ) ClientFault → Type 0
IsAnsweredOrCut (Err (BadReply place)) = ⊥
IsAnsweredOrCut (Err (Damaged stored computed)) = ⊥
IsAnsweredOrCut (Err (Unsettled generations)) = ⊥
IsAnsweredOrCut result = Unit {0}

-- A read of asks that were all answered at one history, which is right under the masters of the
-- reader's root keys and at which these are of the user's roots, is answered or cut off.
abbrev pub ReadsAreAnswered : Type 0
ReadsAreAnswered =
    (k : Masters) (r : Reader) (file : List ℕ) (asks : List Ask) (unanswered : Option (List ℕ))
    (result : Result (List ℕ) ClientFault)
    (v last : Service) (histories : List SealedHistory) (p : PlainHistory) (g : SealedHistory)
    → HoldsRootKeys k r → HasRoots p r → v.surface ≡ k.surface
    → Talks r file asks unanswered result
    → Along v asks histories last → IsRight k p g → AllAre g histories
    → IsAnsweredOrCut result
