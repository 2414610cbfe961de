-- What is sent for a command: its transcript.
use Rattle.std.specs.Prelude.{◌≡◌, ℕ, zero, suc, ◌+◌, ◌-◌, ◌/◌, ◌==◌, Bool, true, false}
use Rattle.std.specs.Prelude.{List, [], ◌∷◌, ◌++◌, length, take, unwrap_or}
use Rattle.ov_base.specs.declared.limits.TheConstants.{MAX_CHUNK_BYTES}
use Rattle.ov_tokens.specs.Keys.{check_value_of}
use Rattle.ov_record.specs.Updates.{SealedUpdate}
use Rattle.ov_script.specs.declared.command.Command.{Command}
use Rattle.ov_script.specs.declared.command.Command.TheVariants as commands
use Rattle.ov_history.specs.History.{History, Matrix, epoch_of, matrix_of}
use Rattle.ov_history.specs.Layers.{Layers, layers_of, no_place}
use Rattle.ov_history.specs.Lists.{file_at, file_names, file_number, set_named, user_number}
use Rattle.ov_history.specs.Masters.{Masters}
use Rattle.ov_history.specs.Places.{living_at}
use Rattle.ov_history.specs.Plain.{PlainUpdate, PlainEnrol, PlainCreate, PlainGrant, PlainRevoke}
use Rattle.ov_history.specs.Plain.{PlainRemove, PlainReplace, PlainHistory, history_of}
use Rattle.ov_history.specs.Sealing.{sealed, sealed_update}
use Rattle.ov_history.specs.Sent.{spelled}
use Rattle.ov_model.specs.Step.{after}
use Rattle.ov_wire.specs.declared.request.Question.TheVariants as questions
use Rattle.ov_wire.specs.declared.request.Request.{Request}
use Rattle.ov_wire.specs.declared.request.Request.TheVariants as requests
use Rattle.ov_wire.specs.declared.answer.Answer.TheVariants.{DeviceFault}
use Rattle.ov_wire.specs.AnswerBytes.{answer_bytes}
use Rattle.ov_wire.specs.Frames.{framed}
use Rattle.ov_wire.specs.Requests.{request_bytes}
use Rattle.ov_protocol.specs.Serving.{Service, later, served}
use Rattle.ov_protocol.specs.Replies.{Replies}
use Rattle.ov_peer.specs.Asks.{Ask}
use Rattle.ov_owner.specs.Talks.{update_request}

-- ---- frames

-- a request and its reply, each behind its length field
abbrev pub frames_of : Ask → List ℕ
frames_of a = framed a.request ++ framed a.reply

-- the frames of each ask, in turn
abbrev pub frames : List Ask → List ℕ
frames [] = []
frames (a ∷ asks) = frames_of a ++ frames asks

-- ---- requests

-- the epoch of the last change of a file's surface, or else of its creation
abbrev pub generation_of : Layers → ℕ → ℕ
generation_of y file = (unwrap_or (living_at y.files file) no_place).generation

-- as many chunks of a file as there are left, the next of which begins at this place
abbrev pub chunks_from : ℕ → ℕ → ℕ → ℕ → List Request
chunks_from file generation start zero = []
chunks_from file generation start (suc left) =
    requests.Chunk file generation start MAX_CHUNK_BYTES
    ∷ chunks_from file generation (start + MAX_CHUNK_BYTES) left

-- how many chunks this many bytes have
abbrev pub chunk_count : ℕ → ℕ
chunk_count size = (size + (MAX_CHUNK_BYTES - 1)) / MAX_CHUNK_BYTES

-- all chunks of a file at a history
abbrev pub chunks_at : History → ℕ → List Request
chunks_at h file =
    chunks_from file (generation_of (layers_of h) file) 0
    (chunk_count (file_at (matrix_of h) file).length)

-- the update of a history's owner, as it is sealed and spelled there, and sent
abbrev pub update_at : Masters → History → PlainUpdate → List Request
update_at k h u =
    update_request k.surface (epoch_of h)
    (spelled (file_names (matrix_of h).files) (sealed_update k (layers_of h) u)) ∷ []

-- what is asked first for a command
abbrev pub first_request : Command → Request
first_request (commands.Enrol user) = requests.Ask (questions.Enrol user)
first_request (commands.Create file names bytes) = requests.Cover file (length bytes) names
first_request (commands.Grant user file) = requests.Ask (questions.Grant user file)
first_request (commands.Revoke user file) = requests.Ask (questions.Revoke user file)
first_request (commands.Remove file) = requests.Ask (questions.Remove file)
first_request (commands.Replace file bytes) = requests.Replan file (length bytes)
first_request (commands.Read user file) = requests.Ask (questions.Key user)
first_request (commands.List file) = requests.List file
first_request commands.Epoch = requests.Hello

-- What is asked for a command after its first request, where nothing is refused. It follows from
-- the masters and from the history without the bytes of its files.
abbrev pub later_requests : Masters → History → Matrix → Command → List Request
later_requests k h m (commands.Enrol user) = update_at k h (PlainEnrol user)
later_requests k h m (commands.Create file names bytes) =
    update_at k h (PlainCreate file (set_named m.users names) bytes)
later_requests k h m (commands.Grant user file) =
    update_at k h (PlainGrant (user_number m user) (file_number m file))
later_requests k h m (commands.Revoke user file) =
    update_at k h (PlainRevoke (user_number m user) (file_number m file))
later_requests k h m (commands.Remove file) = update_at k h (PlainRemove (file_number m file))
later_requests k h m (commands.Replace file bytes) =
    update_at k h (PlainReplace (file_number m file) bytes)
later_requests k h m (commands.Read user file) =
    requests.Chain user file ∷ chunks_at h (file_number m file)
later_requests k h m (commands.List file) = []
later_requests k h m commands.Epoch = []

-- all that is asked for a command, at a history without the bytes of its files
abbrev pub requests_at : Masters → History → Command → List Request
requests_at k h command = first_request command ∷ later_requests k h (matrix_of h) command

-- all that is asked for a command, at a history with the bytes of its files
abbrev pub requests_of : Masters → PlainHistory → Command → List Request
requests_of k p command = requests_at k (history_of p) command

-- ---- transcripts

-- a history as it is served, under both masters
abbrev pub service_of : Masters → PlainHistory → Service
service_of k p = record {
  history = sealed k p;
  surface = k.surface;
  base_check = check_value_of k.base;
}

-- whether a reply is a Refused, by its kind byte
abbrev pub says_refused : List ℕ → Bool
says_refused [] = false
says_refused (kind ∷ body) = kind == 0x88

-- the requests that are left, of which a Refused leaves none
abbrev pub left_unless : Bool → List Request → List Request
left_unless true requests = []
left_unless false requests = requests

-- These asks are the first of the requests, each answered at what the ones before left, and the
-- requests that are left are those.
abbrev pub Begins : Service → List Request → List Ask → List Request → Type 0
Begins v requests [] left = requests ≡ left
Begins v [] (a ∷ asks) left = ⊥
Begins v (request ∷ requests) (a ∷ asks) left =
    (made : List SealedUpdate) × (a.request ≡ request_bytes request)
    × Replies (served v) a.request a.reply made
    × Begins (later v made) (left_unless (says_refused a.reply) requests) asks left

-- the asks are the transcript of a command at a history: each request of the command, as far as
-- none is refused
abbrev pub IsTranscript : Masters → PlainHistory → Command → List Ask → Type 0
IsTranscript k p command asks = Begins (service_of k p) (requests_of k p command) asks []

-- the bytes are the frames of the command's transcript
abbrev pub Transcribed : Masters → PlainHistory → Command → List ℕ → Type 0
Transcribed k p command bytes =
    (asks : List Ask) × IsTranscript k p command asks × (bytes ≡ frames asks)

-- the bytes are the frames of the transcripts of these commands, one after the other, each at the
-- history that the ones before leave
abbrev pub Transcripts : Masters → PlainHistory → List Command → List ℕ → Type 0
Transcripts k p [] bytes = bytes ≡ []
Transcripts k p (command ∷ commands) bytes =
    (one : List ℕ) × (more : List ℕ) × Transcribed k p command one
    × Transcripts k (after p command) commands more × (bytes ≡ one ++ more)

-- ---- transcripts that are broken off

-- what is replied where the disk fails, to a request that needs it
abbrev pub failed_reply : Request → List ℕ
failed_reply (requests.Update epoch spelling tag) = framed (answer_bytes DeviceFault)
failed_reply (requests.Chunk file generation start count) = framed (answer_bytes DeviceFault)
failed_reply request = []

-- the frames with which a transcript is broken off: the next request, without a reply or with one
-- that the disk failed
abbrev pub broken_off : List Request → List ℕ
broken_off [] = []
broken_off (request ∷ requests) = framed (request_bytes request) ++ failed_reply request

-- The bytes are a front of the frames of these requests, which were asked one after the other as
-- far as they go, and then broken off.
abbrev pub IsFrontFrom : Service → List Request → List ℕ → Type 0
IsFrontFrom v requests bytes =
    (asks : List Ask) × (left : List Request) × (n : ℕ)
    × Begins v requests asks left × (bytes ≡ take n (frames asks ++ broken_off left))

-- the bytes are a front of what is sent for a command that a fault ended
abbrev pub IsTranscriptFront : Masters → PlainHistory → Command → List ℕ → Type 0
IsTranscriptFront k p command bytes =
    IsFrontFrom (service_of k p) (requests_of k p command) bytes
