-- Frames, and the frames that are replied to them.
use Rattle.std.specs.Prelude.{◌≡◌, ◌⊎◌, ℕ, List, [], Result, Ok, Err}
use Rattle.ov_record.specs.Updates.{SealedUpdate}
use Rattle.ov_wire.specs.declared.request.Request.{Request}
use Rattle.ov_wire.specs.declared.request.Request.TheVariants as requests
use Rattle.ov_wire.specs.declared.answer.Answer.{Answer}
use Rattle.ov_wire.specs.declared.answer.Answer.TheVariants as answers
use Rattle.ov_wire.specs.AnswerBytes.{answer_bytes}
use Rattle.ov_wire.specs.AnswerForm.{HasAnswerForm}
use Rattle.ov_wire.specs.RequestReading.{request_of}
use Rattle.ov_protocol.specs.Serving.{Serving, serving_after}
use Rattle.ov_protocol.specs.Updating.{updates_in}
use Rattle.ov_protocol.specs.Answers.{Answers, made_by}

-- the answer to what a frame is: a request, or bytes of which the first wrong one is named
abbrev pub AnswersRead : Serving → Result Request ℕ → Answer → Type 0
AnswersRead s (Ok request) answer = Answers s request answer
AnswersRead s (Err place) answer = answer ≡ answers.BadRequest place

-- the updates that are made by this answer to what a frame is
abbrev pub made_of : Result Request ℕ → Answer → List SealedUpdate
made_of (Ok request) answer = made_by request answer
made_of (Err place) answer = []

-- asked this frame, the server replies that one, and makes these updates; the answer is one that
-- can be sent
pub record Replies (s : Serving) (request reply : List ℕ) (made : List SealedUpdate) : Type 0 where
  pub answer : Answer
  pub answers : AnswersRead s (request_of request) answer
  pub form : HasAnswerForm answer
  pub spelled : reply ≡ answer_bytes answer
  pub makes : made ≡ made_of (request_of request) answer

-- a server that is asked this replies so, and then shows what it shows after the updates that it
-- made
pub record AnswersFrame (old new : Serving) (request reply : List ℕ) : Type 0 where
  pub made : List SealedUpdate
  pub replies : Replies old request reply made
  pub next : new ≡ serving_after old made

-- ---- asks that aren't answered by what is shown

-- the updates that a request would have made: the one that it has, where it is an Update
abbrev pub updates_asked : Result Request ℕ → List SealedUpdate
updates_asked (Ok (requests.Update epoch spelling tag)) = updates_in spelling
updates_asked (Ok request) = []
updates_asked (Err place) = []

-- an ask failed, or its answer is that the server's disk did: it made nothing, or what it asked for
abbrev pub MayMake : List ℕ → List SealedUpdate → Type 0
MayMake request made = (made ≡ []) ⊎ (made ≡ updates_asked (request_of request))
