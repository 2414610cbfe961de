-- Wrong places of questions and of updates.
use Rattle.std.proofs.Common.{◌≡◌, ℕ, zero, suc, ◌*◌, ◌/◌, ◌^◌, ◌<◌, List, [], ◌∷◌, length, Err, refl, subst, arith}
use Rattle.ov_base.specs.declared.limits.TheConstants.{MAX_USERS, MAX_FILE_BYTES, SET_BYTES}
use Rattle.ov_base.specs.Names.{IsName}
use Rattle.ov_fields.specs.Spelling.{name_field}
use Rattle.ov_fields.specs.Fronts.{IsFront}
use Rattle.ov_fields.specs.Reading.{◌>>◌, at_most, bytes_at, name_at}
use Rattle.ov_fields.proofs.ReadingLaws.{AreBytes, then_reads, sized_by}
use Rattle.ov_fields.proofs.FieldLaws.{bytes_reads, number_reads, that_reads, wide16, wide32}
use Rattle.ov_fields.proofs.NameLaws.{name_reads}
use Rattle.ov_fields.proofs.TestLaws.{count_is}
use Rattle.ov_fields.proofs.PlaceLaws.{AreBytes-cons, Takes, Fault, HasPlaces, none_before, fault_cut}
use Rattle.ov_fields.proofs.JoinPlaces.{then_places, given_places, refit_places}
use Rattle.ov_fields.proofs.FieldPlaces.{bytes_places, number_places, spanned_places}
use Rattle.ov_fields.proofs.LimitPlaces.{u16_places, at_most_limits}
use Rattle.ov_fields.proofs.ListPlaces.{name_places, optional_places, sized_places}
use Rattle.ov_fields.proofs.RowPlaces.{kind_fault, no_kind_fault}
use Rattle.ov_wire.specs.declared.request.Question.TheVariants as questions
use Rattle.ov_wire.specs.Requests.{question_bytes, HasQuestionForm}
use Rattle.ov_wire.specs.Updates.{Enrolment, Removal, plain, token_fields, AreTokens, tokens_at, fields_bytes, HasFields, IsSpelling, creation, creation_at, grant, grant_at, revocation, revocation_at, replacement, replacement_at, fields_at}
use Rattle.ov_wire.specs.RequestReading as requests
use Rattle.ov_wire.specs.RequestReading.{question_at, spelling_at}
use Rattle.ov_wire.proofs.FieldsLaws as fields
use Rattle.ov_wire.proofs.QuestionLaws as questions_read

pub two_names_places : {Once Limited : Type 0} → HasPlaces Once Limited (name_at >> name_at) questions_read.two_names questions_read.AreTwoNames
two_names_places = then_places name_reads name_places name_places

-- ---- questions

no_question : IsFront question_bytes HasQuestionForm []
no_question = let P = name_places {Once = ⊥} {Limited = ⊥} in none_before (questions.Enrol P.value) P.form (AreBytes-cons 1 (name_field P.value) (omega arith) P.bytes)

question_fault : {Once Limited : Type 0} (bytes : List ℕ) (left : ℕ) → AreBytes bytes → question_at bytes ≡ Err left → Fault Once Limited (Takes question_at) question_bytes HasQuestionForm bytes left
unfolding question_at
question_fault {Once = Once} {Limited = Limited} [] left fits e =
    let is : 0 ≡ left = cc in subst (Fault Once Limited (Takes question_at) question_bytes HasQuestionForm []) is (fault_cut [] no_question)
question_fault (zero ∷ bytes) left fits e = no_kind_fault 0 no_question (λ t x bad. absurd cc) bytes left cc
question_fault (suc zero ∷ bytes) left fits e = kind_fault 1 questions.Enrol name_places questions_read.enrol_kind (λ t. refl) bytes left fits e
question_fault (suc (suc zero) ∷ bytes) left fits e = no_kind_fault 2 no_question (λ t x bad. absurd cc) bytes left cc
question_fault (suc (suc (suc zero)) ∷ bytes) left fits e = kind_fault 3 requests.grant two_names_places questions_read.grant_kind (λ t. refl) bytes left fits e
question_fault (suc (suc (suc (suc zero))) ∷ bytes) left fits e = kind_fault 4 requests.revoke two_names_places questions_read.revoke_kind (λ t. refl) bytes left fits e
question_fault (suc (suc (suc (suc (suc zero)))) ∷ bytes) left fits e = kind_fault 5 questions.Key name_places questions_read.key_kind (λ t. refl) bytes left fits e
question_fault (suc (suc (suc (suc (suc (suc zero))))) ∷ bytes) left fits e = kind_fault 6 questions.Remove name_places questions_read.remove_kind (λ t. refl) bytes left fits e
question_fault (suc (suc (suc (suc (suc (suc (suc verb)))))) ∷ bytes) left fits e =
    no_kind_fault (suc (suc (suc (suc (suc (suc (suc verb))))))) no_question (λ t x bad. absurd cc) bytes left cc

pub question_places : {Once Limited : Type 0} → HasPlaces Once Limited question_at question_bytes HasQuestionForm
question_places =
    let P = name_places {Once = ⊥} {Limited = ⊥} in
    record {
      value = questions.Enrol P.value;
      form = P.form;
      bytes = AreBytes-cons 1 (name_field P.value) (omega arith) P.bytes;
      fault = question_fault;
    }

-- ---- updates

tokens_places : {Once Limited : Type 0} (most : ℕ) → most < 2 ^ 16 → Limited → HasPlaces Once Limited (tokens_at most) token_fields (AreTokens most)
unfolding tokens_at
tokens_places most small limited =
    refit_places (AreTokens most)
    (given_places (λ n. bytes_at (32 * n)) plain (λ tokens. length tokens ≡ 32 * (length tokens / 32)) (λ tokens. length tokens / 32) (that_reads wide16 (at_most most))
    (u16_places (at_most most) 0 most limited (at_most_limits most (2 ^ 16) small))
    (λ n h. refit_places (sized_by (λ tokens. length tokens ≡ 32 * (length tokens / 32)) (λ tokens. length tokens / 32) n) (bytes_places (32 * n)) (λ tokens is. (omega (arith, is), omega (arith, is)))))
    (λ tokens form. (form.1, count_is (2 ^ 16) most (length tokens / 32) form.0))

creation_places : {Once Limited : Type 0} → Limited → HasPlaces Once Limited creation_at fields.creation_fields fields.CreationFits
creation_places limited =
    then_places (then_reads (then_reads (then_reads name_reads (bytes_reads SET_BYTES)) (fields.tokens_reads MAX_USERS (omega arith))) (bytes_reads 32))
    (then_places (then_reads (then_reads name_reads (bytes_reads SET_BYTES)) (fields.tokens_reads MAX_USERS (omega arith)))
    (then_places (then_reads name_reads (bytes_reads SET_BYTES)) (then_places name_reads name_places (bytes_places SET_BYTES)) (tokens_places MAX_USERS (omega arith) limited)) (bytes_places 32))
    (sized_places MAX_FILE_BYTES (omega arith) limited)

grant_places : {Once Limited : Type 0} → HasPlaces Once Limited grant_at fields.grant_fields fields.GrantFits
grant_places = then_places (then_reads (number_reads wide32) (number_reads wide32)) (then_places (number_reads wide32) (number_places wide32) (number_places wide32)) (optional_places (bytes_places 32))

revocation_places : {Once Limited : Type 0} → HasPlaces Once Limited revocation_at fields.revocation_fields fields.RevocationFits
revocation_places = then_places (number_reads wide32) (number_places wide32) (number_places wide32)

replacement_places : {Once Limited : Type 0} → Limited → HasPlaces Once Limited replacement_at fields.replacement_fields fields.ReplacementFits
replacement_places limited =
    let two = then_reads name_reads (fields.tokens_reads MAX_USERS (omega arith)) in
    then_places (then_reads two (bytes_reads 32))
    (then_places two (then_places name_reads name_places (tokens_places MAX_USERS (omega arith) limited)) (bytes_places 32))
    (sized_places MAX_FILE_BYTES (omega arith) limited)

no_fields : IsFront fields_bytes HasFields []
no_fields = let P = name_places {Once = ⊥} {Limited = ⊥} in none_before (Enrolment P.value) P.form (AreBytes-cons 1 (name_field P.value) (omega arith) P.bytes)

fields_fault : {Once Limited : Type 0} → Limited → (bytes : List ℕ) (left : ℕ) → AreBytes bytes → fields_at bytes ≡ Err left → Fault Once Limited (Takes fields_at) fields_bytes HasFields bytes left
unfolding fields_at
fields_fault {Once = Once} {Limited = Limited} limited [] left fits e =
    let is : 0 ≡ left = cc in subst (Fault Once Limited (Takes fields_at) fields_bytes HasFields []) is (fault_cut [] no_fields)
fields_fault limited (zero ∷ bytes) left fits e = no_kind_fault 0 no_fields (λ t x bad. absurd cc) bytes left cc
fields_fault limited (suc zero ∷ bytes) left fits e = kind_fault 1 Enrolment name_places fields.enrolment_kind (λ t. refl) bytes left fits e
fields_fault limited (suc (suc zero) ∷ bytes) left fits e = kind_fault 2 creation (creation_places limited) fields.creation_kind (λ t. refl) bytes left fits e
fields_fault limited (suc (suc (suc zero)) ∷ bytes) left fits e = kind_fault 3 grant grant_places fields.grant_kind (λ t. refl) bytes left fits e
fields_fault limited (suc (suc (suc (suc zero))) ∷ bytes) left fits e = kind_fault 4 revocation revocation_places fields.revocation_kind (λ t. refl) bytes left fits e
fields_fault limited (suc (suc (suc (suc (suc zero)))) ∷ bytes) left fits e = no_kind_fault 5 no_fields (λ t x bad. absurd cc) bytes left cc
fields_fault limited (suc (suc (suc (suc (suc (suc zero))))) ∷ bytes) left fits e = kind_fault 6 Removal (number_places wide32) fields.removal_kind (λ t. refl) bytes left fits e
fields_fault limited (suc (suc (suc (suc (suc (suc (suc zero)))))) ∷ bytes) left fits e =
    kind_fault 7 replacement (replacement_places limited) fields.replacement_kind (λ t. refl) bytes left fits e
fields_fault limited (suc (suc (suc (suc (suc (suc (suc (suc kind))))))) ∷ bytes) left fits e =
    no_kind_fault (suc (suc (suc (suc (suc (suc (suc (suc kind)))))))) no_fields (λ t x bad. absurd cc) bytes left cc

fields_places : {Once Limited : Type 0} → Limited → HasPlaces Once Limited fields_at fields_bytes HasFields
fields_places limited =
    let P = name_places {Once = ⊥} {Limited = ⊥} in
    record {
      value = Enrolment P.value;
      form = P.form;
      bytes = AreBytes-cons 1 (name_field P.value) (omega arith) P.bytes;
      fault = fields_fault limited;
    }

pub spelling_places : {Once Limited : Type 0} → Limited → HasPlaces Once Limited spelling_at plain IsSpelling
spelling_places limited = spanned_places IsSpelling (λ f form. record { fields = f; form = form; spelled = refl }) (fields_places limited)
