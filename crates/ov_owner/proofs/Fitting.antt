-- What a server answers to a first request is in the grammar of answers to it.
use Rattle.std.proofs.Common.{◌≡◌, ℕ, ◌∙◌, List, [], ◌∷◌, length, Some, Result, Ok, Err, ap, inl, inr, arith}
use Rattle.std.specs.Prelude.{Bool, not, true, false}
use Rattle.ov_base.specs.declared.refusal.Refusal.{Refusal}
use Rattle.ov_base.specs.declared.refusal.Refusal.TheVariants.{NoFile, NodesFull, NoUser, Spent}
use Rattle.ov_fields.specs.Reading.{all_of, by_rows, placed}
use Rattle.ov_fields.specs.Spelling.{IsOneOf}
use Rattle.ov_fields.proofs.TagLaws.{each_flag}
use Rattle.ov_record.specs.Updates.{SealedUpdate}
use Rattle.ov_history.specs.Catalogue.{Catalogue, matrix_shown, outline}
use Rattle.ov_history.specs.Asking.{file_named, user_named}
use Rattle.ov_history.specs.History.{Created, Enrolled, Granted, Removed, Replaced, Revoked, Update}
use Rattle.ov_history.specs.Layers.{layers_after}
use Rattle.ov_history.specs.Lists.{is_file, is_user}
use Rattle.ov_history.specs.Refusals.{Test, first_of_tests, is_last, is_past_nodes, tests_of}
use Rattle.ov_history.specs.Sealed.{SealedHistory, StandsFor}
use Rattle.ov_wire.specs.declared.request.Question.{Question}
use Rattle.ov_wire.specs.declared.request.Question.TheVariants as questions
use Rattle.ov_wire.specs.declared.request.Request.{Request}
use Rattle.ov_wire.specs.declared.request.Request.TheVariants as requests
use Rattle.ov_wire.specs.declared.answer.Known.{Known}
use Rattle.ov_wire.specs.declared.answer.Answer.{Answer}
use Rattle.ov_wire.specs.declared.answer.Answer.TheVariants as answers
use Rattle.ov_wire.specs.AnswerBytes.{answer_bytes}
use Rattle.ov_wire.specs.AnswerForm.{HasAnswerForm}
use Rattle.ov_wire.specs.AnswerReading.{answer_of, answer_rows}
use Rattle.ov_wire.specs.AnswersTo.{IsAnswer}
use Rattle.ov_wire.proofs.AnswerForms.{answer_is_frame}
use Rattle.ov_wire.proofs.AnswerLaws.{answer_again}
use Rattle.ov_wire.proofs.LongFrames.{not_long}
use Rattle.ov_protocol.specs.Asking.{AnswersAsk, AnswersCover, AnswersReplan, known_at, numbers_for}
use Rattle.ov_protocol.proofs.Removing.{removals_need_no_node}
use Rattle.ov_owner.specs.Errands.{known_of, plan_of, sealed_by}
use Rattle.ov_owner.specs.Laws.{IsProper}
use Rattle.ov_owner.specs.declared.fault.OwnerFault.{OwnerFault}

-- an answer that is sent is read
pub reads_back : (request : Request) (a : Answer) (reply : List ℕ) → IsAnswer request a → HasAnswerForm a
    → reply ≡ answer_bytes a → answer_of request reply ≡ Ok a
reads_back request a reply is form spelled =
    let bytes = answer_bytes a in
    ap (answer_of request) spelled
    ∙ not_long bytes (placed (length bytes) (all_of (by_rows (answer_rows request) bytes))) (answer_is_frame a form).1
    ∙ ap (placed (length bytes)) (answer_again request a is)

-- the refusals of these tests
whys : List Test → List Refusal
whys [] = []
whys ((why, b) ∷ tests) = why ∷ whys tests

one_of : (tests : List Test) (why : Refusal) → first_of_tests tests ≡ Some why → IsOneOf why (whys tests)
unfolding whys
one_of [] why is = absurd cc
one_of ((other, true) ∷ tests) why is = inl cc
one_of ((other, false) ∷ tests) why is = inr (one_of tests why is)

abbrev tests_at : Catalogue → Update → List Test
tests_at c u = tests_of (matrix_shown c) (outline c) c.epoch u

known_fits : (c : Catalogue) (question : Question) (known : Known)
    → known ≡ known_at c (numbers_for c question) → HasAnswerForm (answers.Known known)
    → IsAnswer (requests.Ask question) (answers.Known known)
known_fits c (questions.Enrol user) known is form =
    let file : known.file ≡ 0 = ap (λ (x : Known). x.file) is in
    let node : known.node ≡ 0 = ap (λ (x : Known). x.node) is in
    let wants : known.wants ≡ false = ap (λ (x : Known). x.wants) is in
    (form.0, form.1, form.2, form.3, omega arith, omega arith, inl wants)
known_fits c (questions.Grant user file) known is form =
    (form.0, form.1, form.2, form.3, form.4, form.5, each_flag known.wants)
known_fits c (questions.Revoke user file) known is form =
    let wants : known.wants ≡ false = ap (λ (x : Known). x.wants) is in
    (form.0, form.1, form.2, form.3, form.4, form.5, inl wants)
known_fits c (questions.Remove file) known is form =
    let user : known.user ≡ 0 = ap (λ (x : Known). x.user) is in
    let base : known.base_root ≡ 0 = ap (λ (x : Known). x.base_root) is in
    let surface : known.surface_root ≡ 0 = ap (λ (x : Known). x.surface_root) is in
    let wants : known.wants ≡ false = ap (λ (x : Known). x.wants) is in
    (form.0, omega arith, omega arith, omega arith, form.4, form.5, inl wants)
known_fits c (questions.Key user) known is form =
    let file : known.file ≡ 0 = ap (λ (x : Known). x.file) is in
    let node : known.node ≡ 0 = ap (λ (x : Known). x.node) is in
    let wants : known.wants ≡ false = ap (λ (x : Known). x.wants) is in
    (form.0, form.1, form.2, form.3, omega arith, omega arith, inl wants)

-- where a question is about a removal, this needs no node
abbrev pub NeedsNoNode : Catalogue → Question → Type 0
NeedsNoNode c (questions.Remove file) =
    is_past_nodes (layers_after (outline c) (Removed (file_named c file))) ≡ false
NeedsNoNode c question = Unit {0}

-- that is so at each store
pub needs_no_node : (master : List ℕ) (c : Catalogue) (g : SealedHistory) (question : Question)
    → StandsFor master c g → NeedsNoNode c question
needs_no_node master c g (questions.Enrol user) stands = tt
needs_no_node master c g (questions.Grant user file) stands = tt
needs_no_node master c g (questions.Revoke user file) stands = tt
needs_no_node master c g (questions.Remove file) stands =
    removals_need_no_node master c g (file_named c file) stands
needs_no_node master c g (questions.Key user) stands = tt

-- a test for nodes that doesn't apply may be left out
without_nodes : (absent past : Bool) (tests : List Test) (why : Refusal) → past ≡ false
    → first_of_tests ((NoFile, absent) ∷ (NodesFull, past) ∷ tests) ≡ Some why
    → first_of_tests ((NoFile, absent) ∷ tests) ≡ Some why
without_nodes true past tests why none is = is
without_nodes false true tests why none is = absurd (cc none)
without_nodes false false tests why none is = is

refused_fits : (c : Catalogue) (question : Question) (why : Refusal) → NeedsNoNode c question
    → AnswersAsk c question (answers.Refused why) → IsAnswer (requests.Ask question) (answers.Refused why)
unfolding whys
refused_fits c (questions.Enrol user) why need is = one_of (tests_at c (Enrolled user)) why is
refused_fits c (questions.Grant user file) why need is =
    one_of (tests_at c (Granted (user_named c user) (file_named c file))) why is
refused_fits c (questions.Revoke user file) why need is =
    one_of (tests_at c (Revoked (user_named c user) (file_named c file))) why is
refused_fits c (questions.Remove file) why need is =
    let n = file_named c file in
    let absent = not (is_file (matrix_shown c) n) in
    let past = is_past_nodes (layers_after (outline c) (Removed n)) in
    one_of ((NoFile, absent) ∷ (Spent, is_last c.epoch) ∷ []) why
    (without_nodes absent past ((Spent, is_last c.epoch) ∷ []) why need is)
refused_fits c (questions.Key user) why need is =
    one_of ((NoUser, not (is_user (matrix_shown c) (user_named c user))) ∷ []) why is

pub ask_fits : (c : Catalogue) (question : Question) → NeedsNoNode c question → (a : Answer)
    → AnswersAsk c question a → HasAnswerForm a → IsAnswer (requests.Ask question) a
ask_fits c question need (answers.Known known) (none, is) form =
    known_fits c question known is form
ask_fits c question need (answers.Refused why) is form = refused_fits c question why need is
ask_fits c question need a is form = absurd is

pub cover_fits : (c : Catalogue) (file : List ℕ) (len : ℕ) (names : List (List ℕ)) (list : ℕ) (a : Answer)
    → AnswersCover c file len list a → HasAnswerForm a → IsAnswer (requests.Cover file len names) a
unfolding whys
cover_fits c file len names list (answers.Plan plan) is form = form
cover_fits c file len names list (answers.Refused why) is form =
    one_of (tests_at c (Created file list len)) why is
cover_fits c file len names list a is form = absurd is

pub replan_fits : (c : Catalogue) (file : List ℕ) (len number : ℕ) (a : Answer)
    → AnswersReplan c number len a → HasAnswerForm a → IsAnswer (requests.Replan file len) a
unfolding whys
replan_fits c file len number (answers.Plan plan) is form = form
replan_fits c file len number (answers.Refused why) is form =
    one_of (tests_at c (Replaced number len)) why is
replan_fits c file len number a is form = absurd is

-- what is sealed of an answer is no wrong reply
abbrev pub IsProperTold : Result (ℕ × SealedUpdate) OwnerFault → Type 0
IsProperTold (Ok told) = Unit {0}
IsProperTold (Err fault) = IsProper (Err fault)

pub ask_proper : (c : Catalogue) (question : Question) (a : Answer) (seal : Known → ℕ × SealedUpdate)
    → AnswersAsk c question a → IsProperTold (sealed_by seal (known_of a))
ask_proper c question (answers.Known known) seal is = tt
ask_proper c question (answers.Refused why) seal is = tt
ask_proper c question a seal is = absurd is

pub cover_proper : (c : Catalogue) (file : List ℕ) (len list : ℕ) (a : Answer) (seal : _ → ℕ × SealedUpdate)
    → AnswersCover c file len list a → IsProperTold (sealed_by seal (plan_of a))
cover_proper c file len list (answers.Plan plan) seal is = tt
cover_proper c file len list (answers.Refused why) seal is = tt
cover_proper c file len list a seal is = absurd is

pub replan_proper : (c : Catalogue) (file len : ℕ) (a : Answer) (seal : _ → ℕ × SealedUpdate)
    → AnswersReplan c file len a → IsProperTold (sealed_by seal (plan_of a))
replan_proper c file len (answers.Plan plan) seal is = tt
replan_proper c file len (answers.Refused why) seal is = tt
replan_proper c file len a seal is = absurd is
