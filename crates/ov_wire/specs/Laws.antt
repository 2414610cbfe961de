-- What holds of all frames, and of the places at which bytes are no request or answer.
use Rattle.std.specs.Prelude.{ℕ, ◌≡◌, ◌≤◌, ◌<◌, List, ◌∷◌, ◌++◌, length, Err}
use Rattle.ov_base.specs.declared.limits.TheConstants.{MAX_FRAME_BYTES}
use Rattle.ov_fields.specs.Fronts.{AreAllBytes, IsWrongPlace}
use Rattle.ov_wire.specs.declared.request.Request.{Request}
use Rattle.ov_wire.specs.Frames.{framed, IsFrame}
use Rattle.ov_wire.specs.declared.request.Request.TheVariants as requests
use Rattle.ov_wire.specs.Requests.{request_bytes, HasRequestForm, IsRequest}
use Rattle.ov_wire.specs.RequestReading.{request_of}
use Rattle.ov_wire.specs.AnswerBytes.{answer_bytes}
use Rattle.ov_wire.specs.AnswersTo.{IsAnswer, update_refusals}
use Rattle.ov_wire.specs.AnswerReading.{answer_of}

-- no frame behind its length field is the front of another's, and none is two
abbrev pub FramesAreToldApart : Type 0
FramesAreToldApart =
    (f g x y : List ℕ)
    → IsFrame f → IsFrame g → framed f ++ x ≡ framed g ++ y → (f ≡ g) × (x ≡ y)

-- each request with form fits a frame
abbrev pub RequestsFitFrames : Type 0
RequestsFitFrames = (request : Request) → HasRequestForm request → IsFrame (request_bytes request)

-- the bytes begin with this kind byte
abbrev pub HasKind : ℕ → List ℕ → Type 0
HasKind kind bytes = (body : List ℕ) × (bytes ≡ kind ∷ body)

-- Where bytes that a frame has room for are no request, the place that is named is that of the
-- first field that no request goes on with, however long, or the end. Just the names of a Cover
-- mustn't come twice.
abbrev pub BadRequestsArePlaced : Type 0
BadRequestsArePlaced =
    (bytes : List ℕ) (place : ℕ)
    → AreAllBytes bytes → length bytes ≤ MAX_FRAME_BYTES → request_of bytes ≡ Err place
    → IsWrongPlace request_bytes IsRequest (HasKind 3 bytes) bytes place

-- Each kind of answer that the request can have has one: an epoch comes after an update's and a
-- generation after a chunk's, and an update is of a kind that can be refused.
abbrev pub HasEachAnswer : Request → Type 0
HasEachAnswer (requests.Update epoch spelling tag) =
    (epoch < 4294967295) × (1 ≤ length (update_refusals spelling))
HasEachAnswer (requests.Chunk file generation start count) = generation < 4294967295
HasEachAnswer request = Unit {0}

-- Where bytes that a frame has room for are no answer to a request that can have each kind of
-- answer, the place that is named is that of the first field that no answer to it goes on with, or
-- the end. Just the names of a Listed mustn't come twice.
abbrev pub BadAnswersArePlaced : Type 0
BadAnswersArePlaced =
    (request : Request) (bytes : List ℕ) (place : ℕ)
    → HasEachAnswer request → AreAllBytes bytes → length bytes ≤ MAX_FRAME_BYTES
    → answer_of request bytes ≡ Err place
    → IsWrongPlace answer_bytes (IsAnswer request) (HasKind 0x8f bytes) bytes place
