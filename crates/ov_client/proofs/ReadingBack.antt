-- Answers that are read as themselves, and the roots at which told chains begin.
use Rattle.std.proofs.Common.{◌≡◌, ◌∙◌, ℕ, Bool, true, false}
use Rattle.std.proofs.Common.{List, [], ◌∷◌, length, Option, Some, None}
use Rattle.std.proofs.Common.{Ok, ap, inl, inr}
use Rattle.ov_base.specs.declared.refusal.Refusal.{Refusal}
use Rattle.ov_base.specs.declared.refusal.Refusal.TheVariants.{NoUser, NoFile, NoPath}
use Rattle.ov_fields.specs.Reading.{all_of, by_rows, placed}
use Rattle.ov_fields.specs.Spelling.{IsOneOf}
use Rattle.ov_tokens.specs.declared.chain.Chain.{Chain}
use Rattle.ov_base_layer.specs.declared.grant.Grant.{Grant}
use Rattle.ov_history.specs.Catalogue.{Catalogue, Nodes}
use Rattle.ov_history.specs.Chains.{IsBaseChainIf, IsSurfaceChain}
use Rattle.ov_history.specs.Layers.{root_of}
use Rattle.ov_history.specs.Refusals.{first_of_tests}
use Rattle.ov_wire.specs.declared.request.Request.{Request}
use Rattle.ov_wire.specs.declared.request.Request.TheVariants as requests
use Rattle.ov_wire.specs.declared.answer.Answer.{Answer}
use Rattle.ov_wire.specs.declared.answer.Answer.TheVariants as answers
use Rattle.ov_wire.specs.AnswerBytes.{answer_bytes}
use Rattle.ov_wire.specs.AnswerForm.{HasAnswerForm}
use Rattle.ov_wire.specs.AnswerReading.{answer_of, answer_rows}
use Rattle.ov_wire.specs.AnswersTo.{IsAnswer, read_refusals}
use Rattle.ov_wire.proofs.AnswerForms.{answer_is_frame}
use Rattle.ov_wire.proofs.AnswerLaws.{answer_again}
use Rattle.ov_wire.proofs.LongFrames.{not_long}
use Rattle.ov_protocol.specs.Reading.{AnswersChain}
use Rattle.ov_client.proofs.Leading.{BeginsAt}
use Rattle.ov_client.proofs.Opening.{there}

-- ---- answers that are read

-- an answer to the request, which can be sent, is read as itself
pub reads_back : (request : Request) (a : Answer) → IsAnswer request a → HasAnswerForm a
    → answer_of request (answer_bytes a) ≡ Ok a
reads_back request a is form =
    not_long (answer_bytes a)
    (placed (length (answer_bytes a)) (all_of (by_rows (answer_rows request) (answer_bytes a))))
    (answer_is_frame a form).1
    ∙ ap (placed (length (answer_bytes a))) (answer_again request a is)

refusal_of_read : (a b c : Bool) (why : Refusal)
    → first_of_tests ((NoUser, a) ∷ (NoFile, b) ∷ (NoPath, c) ∷ []) ≡ Some why
    → IsOneOf why read_refusals
refusal_of_read true b c why is = inl (let same : Some NoUser ≡ Some why = is in cc)
refusal_of_read false true c why is = inr (inl (let same : Some NoFile ≡ Some why = is in cc))
refusal_of_read false false true why is =
    inr (inr (inl (let same : Some NoPath ≡ Some why = is in cc)))
refusal_of_read false false false why is = absurd (let none : None ≡ Some why = is in cc)

pub chain_is_answer : (s : Catalogue) (user file : List ℕ) (u n : ℕ) (a : Answer)
    → AnswersChain s u n a → HasAnswerForm a → IsAnswer (requests.Chain user file) a
chain_is_answer s user file u n (answers.Chained c) is form = form.0
chain_is_answer s user file u n (answers.Refused why) is form = refusal_of_read _ _ _ why is
chain_is_answer s user file u n a is form = absurd is

-- ---- roots

pub base_begins : (b : Bool) (nodes : Nodes) (grants : List Grant) (user node : ℕ) (chain : Chain)
    → IsBaseChainIf b nodes grants user node chain → chain.root ≡ root_of nodes.sets user
base_begins true nodes grants user node chain is = is.0
base_begins false nodes grants user node chain (token, there, is) = ap (λ (c : Chain). c.root) is

pub surface_begins : (nodes : Nodes) (user : ℕ) (surface : Option ℕ) (chain : Option Chain)
    → IsSurfaceChain nodes user surface chain → BeginsAt (root_of nodes.sets user) chain
surface_begins nodes user None None is = tt
surface_begins nodes user None (Some chain) is = absurd is
surface_begins nodes user (Some node) None is = absurd is
surface_begins nodes user (Some node) (Some chain) is = is.0
