-- What asks leave.
use Rattle.std.proofs.Common.{◌≡◌, ℕ, List, [], Result, Ok, Err, refl, inl, inr}
use Rattle.std.specs.Prelude.{◌⊎◌}
use Rattle.std.proofs.Common.{subst, sym}
use Rattle.ov_record.specs.Updates.{SealedUpdate}
use Rattle.ov_wire.specs.declared.request.Request.{Request}
use Rattle.ov_wire.specs.declared.request.Request.TheVariants as requests
use Rattle.ov_wire.specs.declared.answer.Answer.{Answer}
use Rattle.ov_wire.specs.declared.answer.Answer.TheVariants as answers
use Rattle.ov_wire.specs.RequestReading.{request_of}
use Rattle.ov_protocol.specs.Serving.{Service, Serving, later}
use Rattle.ov_protocol.specs.Replies.{MayMake, Replies, made_of, updates_asked}

pub later-nil : (v : Service) → later v [] ≡ v
later-nil v = refl

some_or_none : (read : Result Request ℕ) (a : Answer)
    → (made_of read a ≡ []) ⊎ (made_of read a ≡ updates_asked read)
some_or_none (Ok (requests.Update epoch spelling tag)) (answers.Accepted n) = inr refl
some_or_none (Ok request) a = inl refl
some_or_none (Err place) a = inl refl

-- what a server made by a reply is nothing, or what was asked for
pub replies_may_make : (s : Serving) (request reply : List ℕ) (made : List SealedUpdate)
    → Replies s request reply made → MayMake request made
replies_may_make s request reply made replies =
    subst (MayMake request) (sym replies.makes) (some_or_none (request_of request) replies.answer)
