-- Which replies are refusals.
use Rattle.std.proofs.Common.{◌≡◌, ℕ, ◌∙◌, Bool, true, false, List, [], Ok, refl, ap, inl, inr}
use Rattle.ov_base.specs.declared.refusal.Refusal.{Refusal}
use Rattle.ov_fields.specs.Fronts.{AreAllBytes}
use Rattle.ov_record.specs.Updates.{SealedUpdate}
use Rattle.ov_wire.specs.declared.request.Request.{Request}
use Rattle.ov_wire.specs.declared.answer.Answer.{Answer}
use Rattle.ov_wire.specs.declared.answer.Answer.TheVariants as answers
use Rattle.ov_wire.specs.AnswerBytes.{answer_bytes}
use Rattle.ov_wire.specs.AnswerReading.{answer_of}
use Rattle.ov_wire.proofs.AnswerForms.{read_alike}
use Rattle.ov_wire.specs.Requests.{HasRequestForm, request_bytes}
use Rattle.ov_protocol.specs.Serving.{Service, Serving, later, served}
use Rattle.ov_protocol.specs.Replies.{MayMake, Replies, updates_asked}
use Rattle.ov_protocol.proofs.Leaving.{later-nil, replies_may_make}
use Rattle.ov_protocol.proofs.Reading.{request_back}
use Rattle.ov_transcript.specs.Transcripts.{left_unless, says_refused}

-- nothing is left of nothing
pub left_none : (b : Bool) → left_unless b [] ≡ []
left_none true = refl
left_none false = refl

-- a reply that says so by its kind is a Refused
pub refused_kind : (a : Answer) → says_refused (answer_bytes a) ≡ true
    → (why : Refusal) × (a ≡ answers.Refused why)
refused_kind (answers.Refused why) is = (why, refl)
refused_kind a is = absurd (cc is)

-- what is read of a reply is what was replied
pub is_read : (s : Serving) (request : Request) (reply : List ℕ) (made : List SealedUpdate)
    (a : Answer)
    (frame : List ℕ) (replies : Replies s frame reply made)
    → AreAllBytes reply → answer_of request reply ≡ Ok a → reply ≡ answer_bytes a
is_read s request reply made a frame replies bytes reads =
    replies.spelled
    ∙ ap answer_bytes (read_alike request reply replies.answer a bytes replies.form replies.spelled
    reads)

-- what is served stays the same after a request that is no update
pub still_served : (v : Service) (request : Request) (reply : List ℕ) (made : List SealedUpdate)
    → HasRequestForm request → updates_asked (Ok request) ≡ []
    → Replies (served v) (request_bytes request) reply made → later v made ≡ v
still_served v request reply made form none replies =
    ap (later v) (by_case (replies_may_make (served v) (request_bytes request) reply made replies))
    ∙ later-nil v where
      by_case : MayMake (request_bytes request) made → made ≡ []
      by_case (inl is) = is
      by_case (inr is) = is ∙ ap updates_asked (request_back request form) ∙ none
