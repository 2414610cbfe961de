-- A server has one reply to each frame.
use Rattle.std.proofs.Common.{◌≡◌, ◌∙◌, ℕ, List, [], Result, Ok, Err, refl, sym, ap, inl, inr}
use Rattle.std.specs.Prelude.{IsSome}
use Rattle.ov_record.specs.Updates.{SealedUpdate}
use Rattle.ov_wire.specs.declared.request.Request.{Request}
use Rattle.ov_wire.specs.declared.request.Request.TheVariants as requests
use Rattle.ov_wire.specs.declared.answer.Answer.{Answer}
use Rattle.ov_wire.specs.declared.answer.Answer.TheVariants as answers
use Rattle.ov_wire.specs.AnswerBytes.{answer_bytes}
use Rattle.ov_wire.specs.RequestReading.{request_of}
use Rattle.ov_protocol.specs.Serving.{IsService, Service, Serving, serving_after}
use Rattle.ov_protocol.specs.Replies.{AnswersFrame, AnswersRead, made_of}
use Rattle.ov_protocol.specs.Laws.{AlikeReplies, AreAlike, AreAlikeFrames, OneReply}
use Rattle.ov_protocol.proofs.OneAnswer.{alike_answers, one_answer}

read_once : (s : Serving) (v : Service) (read : Result Request ℕ) (one other : Answer)
    → IsService s v → IsSome s.stored → AnswersRead s read one → AnswersRead s read other
    → one ≡ other
read_once s v (Ok request) one other is tells p q = one_answer s v request one other is tells p q
read_once s v (Err place) one other is tells p q = p ∙ sym q

read_alike : (s : Serving) (v : Service) (read : Result Request ℕ) (one other : Answer)
    → IsService s v → AnswersRead s read one → AnswersRead s read other → AreAlike one other
read_alike s v (Ok request) one other is p q = alike_answers s v request one other is p q
read_alike s v (Err place) one other is p q = inl (p ∙ sym q)

-- by bytes nothing is made
bytes_make : (read : Result Request ℕ) (bytes : List ℕ) → made_of read (answers.Bytes bytes) ≡ []
bytes_make (Ok (requests.Update epoch spelling tag)) bytes = refl
bytes_make (Ok request) bytes = refl
bytes_make (Err place) bytes = refl

-- answers that are alike make the same
made_alike : (read : Result Request ℕ) (one other : Answer) → AreAlike one other
    → made_of read one ≡ made_of read other
made_alike read one other (inl same) = ap (made_of read) same
made_alike read one other (inr (a, b, is, too, many)) =
    ap (made_of read) is ∙ bytes_make read a ∙ sym (bytes_make read b) ∙ ap (made_of read) (sym too)

-- alike frames spell alike answers
frames_alike : (one other : Answer) (reply again : List ℕ) → AreAlike one other
    → reply ≡ answer_bytes one → again ≡ answer_bytes other → AreAlikeFrames reply again
frames_alike one other reply again (inl same) p q = inl (p ∙ ap answer_bytes same ∙ sym q)
frames_alike one other reply again (inr (a, b, is, too, many)) p q =
    inr (a, b, p ∙ ap answer_bytes is, q ∙ ap answer_bytes too, many)

-- servers that show the same and make the same show the same again
next_same : (old new other : Serving) (request reply again : List ℕ)
    (p : AnswersFrame old new request reply) (q : AnswersFrame old other request again)
    → made_of (request_of request) p.replies.answer ≡ made_of (request_of request) q.replies.answer
    → new ≡ other
next_same old new other request reply again p q same =
    p.next
    ∙ ap (λ (us : List SealedUpdate). serving_after old us)
    (p.replies.makes ∙ same ∙ sym q.replies.makes)
    ∙ sym q.next

pub one_reply : OneReply
one_reply old new other v request reply again is tells p q =
    let same : p.replies.answer ≡ q.replies.answer =
    read_once old v (request_of request) p.replies.answer q.replies.answer is tells p.replies.answers
    q.replies.answers in (
      p.replies.spelled ∙ ap answer_bytes same ∙ sym q.replies.spelled,
      next_same old new other request reply again p q (ap (made_of (request_of request)) same),
    )

pub alike_replies : AlikeReplies
alike_replies old new other v request reply again is p q =
    let alike : AreAlike p.replies.answer q.replies.answer =
    read_alike old v (request_of request) p.replies.answer q.replies.answer is p.replies.answers
    q.replies.answers in (
      frames_alike p.replies.answer q.replies.answer reply again alike p.replies.spelled
          q.replies.spelled,
      next_same old new other request reply again p q
          (made_alike (request_of request) p.replies.answer q.replies.answer alike),
    )
