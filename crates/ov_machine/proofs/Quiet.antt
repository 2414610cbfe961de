-- What the machine's server does when it is asked what changes nothing.
use Rattle.std.proofs.Common.{◌≡◌, ◌∙◌, ℕ, List, [], Result, refl, ap, subst, inl, inr}
use Rattle.ov_disk.specs.Tells.{DiskTells}
use Rattle.ov_record.specs.Updates.{SealedUpdate}
use Rattle.ov_wire.specs.declared.request.Request.{Request}
use Rattle.ov_wire.specs.declared.request.Request.TheVariants as requests
use Rattle.ov_wire.specs.declared.answer.Answer.{Answer}
use Rattle.ov_wire.specs.AnswerBytes.{answer_bytes}
use Rattle.ov_wire.specs.AnswerForm.{HasAnswerForm}
use Rattle.ov_wire.specs.Requests.{HasRequestForm, request_bytes}
use Rattle.ov_protocol.specs.Serving.{Serving}
use Rattle.ov_protocol.specs.Answers.{Answers, made_by}
use Rattle.ov_protocol.specs.Replies.{AnswersRead, Replies, made_of}
use Rattle.ov_protocol.proofs.Reading.{request_back}
use Rattle.ov_peer.specs.Disks.{MayNeedDisk}
use Rattle.ov_peer.proofs.Needing.{needs_disk}
use Rattle.ov_server.specs.Answering.{AnswersOrFails, WritesNothing, serving_of}
use Rattle.ov_server.specs.Locally.{needs}
use Rattle.ov_store.specs.Opened.{Opened}
use Rattle.ov_machine.specs.Seats.{Stays, served}

-- an answer that a server gave by what it shows
pub record Says (s : Serving) (request : Request) (reply : List ℕ) (a : Answer) : Type 0 where
  pub answers : Answers s request a
  pub form : HasAnswerForm a
  pub spelled : reply ≡ answer_bytes a

-- a reply has an answer, and what is made is made by that
pub says : (s : Serving) (request : Request) (reply : List ℕ) (made : List SealedUpdate)
    → HasRequestForm request → Replies s (request_bytes request) reply made
    → (a : Answer) × Says s request reply a × (made ≡ made_by request a)
says s request reply made form replies = (
  replies.answer,
  record {
    answers = subst (λ (r : Result Request ℕ). AnswersRead s r replies.answer)
        (request_back request form) replies.answers;
    form = replies.form;
    spelled = replies.spelled;
  },
  replies.makes
      ∙ ap (λ (r : Result Request ℕ). made_of r replies.answer) (request_back request form),
)

-- a request that needs no disk makes nothing
quiet_makes : (request : Request) → (MayNeedDisk request → ⊥) → (a : Answer)
    → made_by request a ≡ []
quiet_makes (requests.Update epoch spelling tag) quiet a = absurd (quiet tt)
quiet_makes request quiet a = refl

module _ {D : Type 0} (tells : DiskTells D) where
  -- an ask that writes nothing
  pub asked_stays : (s t : Opened D) (request reply : List ℕ) → served tells s request reply t
      → WritesNothing tells s t → Stays tells s t
  asked_stays s t request reply asks writes =
      record { writes = writes; lent = asks.call.1; later = asks.call.2 }

  -- a request that needs no disk is answered, and all stays
  pub quiet_asked : (s t : Opened D) (request : Request) (reply : List ℕ)
      → HasRequestForm request → (MayNeedDisk request → ⊥)
      → served tells s (request_bytes request) reply t
      → Stays tells s t × (a : Answer) × Says (serving_of s) request reply a
  quiet_asked s t request reply form quiet asks = by_answer asks.answer where
    by_answer : AnswersOrFails tells s t (request_bytes request) reply
        → Stays tells s t × (a : Answer) × Says (serving_of s) request reply a
    by_answer (inl is) =
        let (a, said, makes) = says (serving_of s) request reply is.frame.made form
        is.frame.replies in
        let writes = is.untouched (makes ∙ quiet_makes request quiet a) in
        (asked_stays s t (request_bytes request) reply asks writes, a, said)
    by_answer (inr is) =
        absurd (quiet (needs_disk (serving_of s) request form
        (needs tells s t (request_bytes request) reply is)))
