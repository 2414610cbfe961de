-- The laws of servers.
use Rattle.std.specs.Prelude.{◌≡◌, ◌⊎◌, ◌<◌, ◌+◌, ℕ, List, length, get_or, Ok, IsSome}
use Rattle.ov_record.specs.Updates.{SealedUpdate}
use Rattle.ov_wire.specs.declared.request.Request.{Request}
use Rattle.ov_wire.specs.declared.answer.Answer.{Answer}
use Rattle.ov_wire.specs.declared.answer.Answer.TheVariants.{Bytes}
use Rattle.ov_wire.specs.AnswerBytes.{answer_bytes}
use Rattle.ov_wire.specs.AnswerReading.{answer_of}
use Rattle.ov_wire.specs.Frames.{IsFrame}
use Rattle.ov_wire.specs.Requests.{HasRequestForm, request_bytes}
use Rattle.ov_protocol.specs.Serving.{Serving, Service, IsService, hidden, later, served, told_as}
use Rattle.ov_protocol.specs.Answers.{Answers, made_by}
use Rattle.ov_protocol.specs.Replies.{AnswersFrame, Replies}

-- a server that serves a history shows what follows from that history and its keys, and its stored
-- bytes where it tells them
abbrev pub ServicesAreServed : Type 0
ServicesAreServed = (s : Serving) (v : Service) → IsService s v → s ≡ told_as s.stored (served v)

-- two answers are the same, or both give stored bytes, and as many
abbrev pub AreAlike : Answer → Answer → Type 0
AreAlike one other =
    (one ≡ other)
    ⊎ ((a b : List ℕ) × (one ≡ Bytes a) × (other ≡ Bytes b) × (length a ≡ length b))

-- two replies are the same, or both spell an answer that gives stored bytes, and as many
abbrev pub AreAlikeFrames : List ℕ → List ℕ → Type 0
AreAlikeFrames one other =
    (one ≡ other)
    ⊎ ((a b : List ℕ) × (one ≡ answer_bytes (Bytes a)) × (other ≡ answer_bytes (Bytes b))
    × (length a ≡ length b))

-- Two answers to one request are the same, of a server that serves a history, but for the stored
-- bytes that they give: of these, how many they are is the same.
abbrev pub AlikeAnswers : Type 0
AlikeAnswers =
    (s : Serving) (v : Service) (request : Request) (one other : Answer)
    → IsService s v → Answers s request one → Answers s request other → AreAlike one other

-- Two servers that show the same reply the same to one frame, but for the stored bytes that they
-- give, and then show the same again.
abbrev pub AlikeReplies : Type 0
AlikeReplies =
    (old new other : Serving) (v : Service) (request reply again : List ℕ)
    → IsService old v → AnswersFrame old new request reply → AnswersFrame old other request again
    → AreAlikeFrames reply again × (new ≡ other)

-- two answers to one request are the same, of a server that serves a history and tells its stored
-- bytes
abbrev pub OneAnswer : Type 0
OneAnswer =
    (s : Serving) (v : Service) (request : Request) (one other : Answer)
    → IsService s v → IsSome s.stored
    → Answers s request one → Answers s request other → one ≡ other

-- two servers that show the same, their stored bytes too, reply the same to one frame, and then
-- show the same again
abbrev pub OneReply : Type 0
OneReply =
    (old new other : Serving) (v : Service) (request reply again : List ℕ)
    → IsService old v → IsSome old.stored
    → AnswersFrame old new request reply → AnswersFrame old other request again
    → (reply ≡ again) × (new ≡ other)

-- what a server answers it may answer without its stored bytes being told
abbrev pub HiddenAnswers : Type 0
HiddenAnswers =
    (s : Serving) (request : Request) (answer : Answer)
    → Answers s request answer → Answers (hidden s) request answer

-- what a server replies it may reply without its stored bytes being told, and makes the same
abbrev pub HiddenReplies : Type 0
HiddenReplies =
    (s : Serving) (request reply : List ℕ) (made : List SealedUpdate)
    → Replies s request reply made → Replies (hidden s) request reply made

-- a server that serves a history serves, after it replied, the history followed by what it made
abbrev pub ServersGoOn : Type 0
ServersGoOn =
    (old new : Serving) (v : Service) (request reply : List ℕ)
    (answers : AnswersFrame old new request reply)
    → IsService old v → IsService new (later v answers.made)

-- after a reply the epoch of a server is as much higher as the server made updates
abbrev pub EpochsGoOn : Type 0
EpochsGoOn =
    (old new : Serving) (request reply : List ℕ) (answers : AnswersFrame old new request reply)
    → new.catalogue.epoch ≡ old.catalogue.epoch + length answers.made

-- a reply is one frame
abbrev pub RepliesAreFrames : Type 0
RepliesAreFrames =
    (s : Serving) (request reply : List ℕ) (made : List SealedUpdate)
    → Replies s request reply made → IsFrame reply

-- what is read of a reply to a request that was sent is the server's answer to that request, and
-- the server made the updates of that answer
abbrev pub RepliesAreRead : Type 0
RepliesAreRead =
    (s : Serving) (request : Request) (reply : List ℕ) (made : List SealedUpdate) (read : Answer)
    → ((i : ℕ) → get_or reply i 0 < 256) → HasRequestForm request
    → Replies s (request_bytes request) reply made → answer_of request reply ≡ Ok read
    → Answers s request read × (made ≡ made_by request read)
