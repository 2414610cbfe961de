-- One request, and the answer that is read.
use Rattle.std.specs.Prelude.{◌≡◌, ◌⊎◌, ℕ, List, Result, Ok, Err}
use Rattle.ov_fields.specs.Fronts.{AreAllBytes}
use Rattle.ov_record.specs.Updates.{SealedUpdate}
use Rattle.ov_wire.specs.declared.request.Request.{Request}
use Rattle.ov_wire.specs.declared.answer.Answer.{Answer}
use Rattle.ov_wire.specs.declared.answer.Answer.TheVariants.{DeviceFault}
use Rattle.ov_wire.specs.AnswerReading.{answer_of}
use Rattle.ov_wire.specs.Requests.{request_bytes}
use Rattle.ov_protocol.specs.Serving.{Service, later, served}
use Rattle.ov_protocol.specs.Answers.{Answers, made_by}
use Rattle.ov_protocol.specs.Replies.{MayMake}
use Rattle.ov_peer.specs.Disks.{NeedsDisk}
use Rattle.ov_peer.specs.Tells.{PeerTells}
use Rattle.ov_peer.specs.declared.fault.ExchangeFault.{ExchangeFault}
use Rattle.ov_peer.specs.declared.fault.ExchangeFault.TheVariants.{BadReply, Link, Memory}

-- whatever is replied to the one request is read as to the other
abbrev pub AreReadAlike : Request → Request → Type 0
AreReadAlike r q = (reply : List ℕ) → answer_of r reply ≡ answer_of q reply

-- the peer was asked this request, and its reply reads so
pub record Answered {P : Type 0} (peer : PeerTells P) (p q : P) (request : Request)
    (read : Result Answer ℕ) : Type 0 where
  pub reply : List ℕ
  pub sent : peer.asked p (request_bytes request) reply q
  pub bytes : AreAllBytes reply
  pub reads : answer_of request reply ≡ read

-- memory ran out before the ask, in it, or after it was answered
abbrev pub Forgets : {P : Type 0} → PeerTells P → P → P → Request → Type 0
Forgets peer p q request =
    (q ≡ p)
    ⊎ (peer.failed p (request_bytes request) q
    ⊎ ((reply : List ℕ) × peer.asked p (request_bytes request) reply q))

-- the peer was asked this request and the answer was read, or why not
abbrev pub Exchanges : {P : Type 0} → PeerTells P → P → P → Request
    → Result Answer ExchangeFault → Type 0
Exchanges peer p q request (Ok answer) = Answered peer p q request (Ok answer)
Exchanges peer p q request (Err (BadReply place)) = Answered peer p q request (Err place)
Exchanges peer p q request (Err Link) = peer.failed p (request_bytes request) q
Exchanges peer p q request (Err Memory) = Forgets peer p q request

-- the answer is the one at this history, with the updates that are made by it, or the server's disk
-- failed where the request needs it
abbrev pub IsAnswerAt : Service → Request → Answer → List SealedUpdate → Type 0
IsAnswerAt v request answer made =
    (Answers (served v) request answer × (made ≡ made_by request answer))
    ⊎ ((answer ≡ DeviceFault) × MayMake (request_bytes request) made
    × NeedsDisk (served v) (request_bytes request))

-- asked this request, a peer that serves that history answers so, and then serves a history that
-- goes on by what others did and by what the request made
abbrev pub Tells : Service → Request → Answer → (Service → Type 0) → Type 0
Tells v request answer Then =
    (others : List SealedUpdate) × (made : List SealedUpdate)
    × IsAnswerAt (later v others) request answer made × Then (later (later v others) made)
