-- What is made by a refusal.
use Rattle.std.proofs.Common.{◌≡◌, [], refl}
use Rattle.ov_base.specs.declared.refusal.Refusal.{Refusal}
use Rattle.ov_wire.specs.declared.request.Request.{Request}
use Rattle.ov_wire.specs.declared.request.Request.TheVariants as requests
use Rattle.ov_wire.specs.declared.answer.Answer.TheVariants as answers
use Rattle.ov_protocol.specs.Answers.{made_by}

-- nothing is made by a refusal
pub refusal_makes : (request : Request) (why : Refusal) → made_by request (answers.Refused why) ≡ []
refusal_makes (requests.Update epoch spelling tag) why = refl
refusal_makes request why = refl
