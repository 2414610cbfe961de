-- What an answer that was read is.
use Rattle.std.proofs.Common.{◌≡◌, ℕ, List, length, Option, Some, None}
use Rattle.std.proofs.Common.{Ok}
use Rattle.std.specs.Prelude.{IfOk}
use Rattle.ov_fields.specs.Fronts.{AreAllBytes}
use Rattle.ov_fields.specs.Reading.{all_of, by_rows}
use Rattle.ov_wire.specs.declared.request.Request.{Request}
use Rattle.ov_wire.specs.declared.request.Request.TheVariants as requests
use Rattle.ov_wire.specs.declared.answer.Answer.{Answer}
use Rattle.ov_wire.specs.declared.answer.Answer.TheVariants as answers
use Rattle.ov_wire.specs.declared.answer.Chained.{Chained}
use Rattle.ov_wire.specs.AnswerReading.{answer_of, answer_rows}
use Rattle.ov_wire.specs.AnswersTo.{IsAnswer, IsChained}
use Rattle.ov_wire.proofs.AnswerForms.{long_ok, placed_ok}
use Rattle.ov_wire.proofs.AnswerLaws.{answer_takes}
use Rattle.ov_client.specs.Readers.{Reader}
use Rattle.ov_client.specs.Telling.{TellsFewSteps, chained_in, chained_unless, wrong_field}

-- what is read is one of the answers that the request allows
pub answer_is : (request : Request) (reply : List ℕ) (a : Answer) → AreAllBytes reply
    → answer_of request reply ≡ Ok a → IsAnswer request a
answer_is request reply a bytes e =
    (answer_takes request reply a (record { each = bytes })
    (placed_ok (length reply) (all_of (by_rows (answer_rows request) reply)) a (long_ok _ _ a e))).0

-- a Chained has as many base steps as a frame can announce
pub few_steps : (user file : List ℕ) (a : Answer) → IsAnswer (requests.Chain user file) a
    → TellsFewSteps a
few_steps user file (answers.Chained c) is = is.5.1.0
few_steps user file a is = tt

unless_form : (o : Option ℕ) (c : Chained) → IsChained c → IfOk (chained_unless o c) IsChained
unless_form None c is = is
unless_form (Some place) c is = tt

-- a Chained that is told has the form of one
pub chained_form : (r : Reader) (least : ℕ) (user file : List ℕ) (a : Answer)
    → IsAnswer (requests.Chain user file) a → IfOk (chained_in r least a) IsChained
chained_form r least user file (answers.Chained c) is = unless_form (wrong_field r least c) c is
chained_form r least user file (answers.Refused why) is = tt
chained_form r least user file answers.NoMemory is = tt
chained_form r least user file a is = tt
