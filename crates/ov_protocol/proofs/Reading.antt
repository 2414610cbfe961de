-- What is read of a reply.
use Rattle.std.proofs.Common.{◌≡◌, ℕ, length, Result, Ok, sym, ◌∙◌, ap, subst}
use Rattle.ov_fields.specs.Reading.{all_of, by_rows, placed}
use Rattle.ov_wire.specs.declared.request.Request.{Request}
use Rattle.ov_wire.specs.Frames.{IsFrame}
use Rattle.ov_wire.specs.RequestReading.{request_of, request_rows}
use Rattle.ov_wire.specs.Requests.{HasRequestForm, request_bytes}
use Rattle.ov_wire.proofs.AnswerForms.{answer_is_frame, read_alike}
use Rattle.ov_wire.proofs.LongFrames.{not_long}
use Rattle.ov_wire.proofs.RequestLaws.{request_again}
use Rattle.ov_protocol.specs.Answers.{Answers, made_by}
use Rattle.ov_protocol.specs.Replies.{AnswersRead, made_of}
use Rattle.ov_protocol.specs.Laws.{RepliesAreFrames, RepliesAreRead}

pub replies_are_frames : RepliesAreFrames
replies_are_frames s request reply made replies =
    subst IsFrame (sym replies.spelled) (answer_is_frame replies.answer replies.form)

-- what is sent is read again
pub request_back : (r : Request) → HasRequestForm r → request_of (request_bytes r) ≡ Ok r
request_back r form =
    not_long (request_bytes r)
    (placed (length (request_bytes r)) (all_of (by_rows request_rows (request_bytes r)))) form.fits
    ∙ ap (placed (length (request_bytes r))) (request_again r form.is_request)

pub replies_are_read : RepliesAreRead
replies_are_read s request reply made read bytes form replies is =
    let back : request_of (request_bytes request) ≡ Ok request = request_back request form in
    let same : replies.answer ≡ read =
    read_alike request reply replies.answer read bytes replies.form replies.spelled is in
    let answered : Answers s request replies.answer =
    subst (λ (r : Result Request ℕ). AnswersRead s r replies.answer) back replies.answers in
    let makes : made ≡ made_by request replies.answer =
    replies.makes ∙ ap (λ (r : Result Request ℕ). made_of r replies.answer) back in (
      subst (Answers s request) same answered,
      makes ∙ ap (made_by request) same,
    )
