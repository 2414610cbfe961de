-- How many bytes requests, answers and updates have.
use Rattle.std.proofs.Common.{◌≡◌, ℕ, ◌+◌, ◌*◌, ◌≤◌, List, [], ◌∷◌, ◌++◌, length, length-append, Option, Some, None, Result, Ok, Err, refl, ap, arith}
use Rattle.std.specs.Prelude.{slice_index_or}
use Rattle.std.specs.List.{AllByRecursion, flat_map}
use Rattle.std.proofs.lemmas.List.{length-map}
use Rattle.ov_base.specs.Names.{IsName}
use Rattle.ov_base.specs.Sets.{bytes_of, empty, single, size, with}
use Rattle.ov_base.proofs.SetBytes.{length-bytes_of}
use Rattle.ov_base.proofs.SetSizes.{size-empty, size-single, size-union-le}
use Rattle.ov_base.specs.declared.limits.TheConstants.{SET_BYTES}
use Rattle.ov_ctr.proofs.Pad.{length-xor_pad}
use Rattle.ov_fields.specs.Spelling.{counted, flag, name_field, sized, token_field, u32, u8}
use Rattle.ov_fields.proofs.ListLaws.{many_reads}
use Rattle.ov_fields.proofs.NameLaws.{name_reads, token_reads}
use Rattle.ov_tokens.specs.declared.label.Kind.TheVariants.{Derive}
use Rattle.ov_graph.specs.Contents.{plan_of}
use Rattle.ov_graph.proofs.GraphLaws.{plan-few}
use Rattle.ov_base_layer.specs.Seals.{cover_tokens}
use Rattle.ov_record.specs.Spelling.{HasForm, spelling}
use Rattle.ov_record.specs.Briefs.{text_of}
use Rattle.ov_record.specs.Updates.{SealedCreate, SealedEnrol, SealedGrant, SealedRemove, SealedReplace, SealedRevoke, SealedUpdate}
use Rattle.ov_record.specs.Forms.{second_form}
use Rattle.ov_surface.specs.Coats.{base_text}
use Rattle.ov_surface.specs.Tags.{tag_of_file}
use Rattle.ov_history.specs.Catalogue.{Catalogue, outline}
use Rattle.ov_history.specs.Layers.{Layers, list_in, node_for}
use Rattle.ov_history.specs.Lists.{set_named, set_with}
use Rattle.ov_history.specs.Masters.{Masters, access_key}
use Rattle.ov_history.specs.Places.{place_of}
use Rattle.ov_history.specs.Plain.{PlainCreate, PlainReplace}
use Rattle.ov_history.specs.Sealing.{sealed_update}
use Rattle.ov_history.specs.Sent.{spelled}
use Rattle.ov_wire.specs.declared.request.Question.{Question}
use Rattle.ov_wire.specs.declared.request.Question.TheVariants as questions
use Rattle.ov_wire.specs.declared.request.Request.TheVariants as requests
use Rattle.ov_wire.specs.declared.answer.Plan.{Plan}
use Rattle.ov_wire.specs.declared.answer.Answer.{Answer}
use Rattle.ov_wire.specs.declared.answer.Answer.TheVariants as answers
use Rattle.ov_wire.specs.AnswerBytes.{answer_bytes}
use Rattle.ov_wire.specs.Requests.{HasRequestForm, request_bytes}
use Rattle.ov_protocol.specs.Asking.{AnswersAsk, AnswersCover, AnswersReplan}
use Rattle.ov_protocol.specs.Updating.{AnswersSealed, AnswersSpelled}

-- ---- fields

name_short : (name : List ℕ) → IsName name → length (name_field name) ≤ 65
name_short name is = let k = name_reads.short name is in omega (arith, k)

names_short : (names : List (List ℕ)) → AllByRecursion IsName names
    → length (flat_map name_field names) ≤ 65 * length names
names_short names are = let k = (many_reads name_reads (length names)).short names (are, refl) in omega (arith, k)

numbers_short : (numbers : List ℕ) → length (flat_map u32 numbers) ≡ 4 * length numbers
numbers_short [] = refl
numbers_short (n ∷ numbers) = let k = numbers_short numbers in omega (arith, k)

-- a list of this many names has no more users
set_few : (users names : List (List ℕ)) (set : ℕ) → size (set_with users set names) ≤ size set + length names
set_few users [] set = omega arith
set_few users (name ∷ names) set =
    let n = place_of name users in
    let k = set_few users names (with set n) in
    omega (arith, k, size-union-le set (single n), size-single n)

pub list_few : (users names : List (List ℕ)) → size (set_named users names) ≤ length names
list_few users names = omega (arith, set_few users names empty, size-empty)

-- ---- first requests, and their answers

pub question_short : (question : Question) → HasRequestForm (requests.Ask question)
    → length (request_bytes (requests.Ask question)) ≤ 132
question_short (questions.Enrol user) form = omega (arith, name_short user form.is_request)
question_short (questions.Grant user file) form =
    let one = name_short user form.is_request.0 in
    let two = name_short file form.is_request.1 in
    omega (arith, one, two, length-append (name_field user) (name_field file))
question_short (questions.Revoke user file) form =
    let one = name_short user form.is_request.0 in
    let two = name_short file form.is_request.1 in
    omega (arith, one, two, length-append (name_field user) (name_field file))
question_short (questions.Key user) form = omega (arith, name_short user form.is_request)
question_short (questions.Remove file) form = omega (arith, name_short file form.is_request)

pub ask_answer_short : (c : Catalogue) (question : Question) (a : Answer) → AnswersAsk c question a
    → length (answer_bytes a) ≤ 26
ask_answer_short c question (answers.Known known) is = omega arith
ask_answer_short c question (answers.Refused why) is = omega arith
ask_answer_short c question a is = absurd is

pub cover_short : (file : List ℕ) (len : ℕ) (names : List (List ℕ))
    → HasRequestForm (requests.Cover file len names)
    → length (request_bytes (requests.Cover file len names)) ≤ 72 + 65 * length names
cover_short file len names form =
    let one = name_short file form.is_request.0 in
    let all = names_short names form.is_request.3.0 in
    omega (arith, one, all, length-append (name_field file ++ u32 len) (counted name_field names), length-append (name_field file) (u32 len))

pub replan_short : (file : List ℕ) (len : ℕ) → HasRequestForm (requests.Replan file len)
    → length (request_bytes (requests.Replan file len)) ≤ 70
replan_short file len form =
    let one = name_short file form.is_request.0 in
    omega (arith, one, length-append (name_field file) (u32 len))

plan_short : (plan : Plan) → length (answer_bytes (answers.Plan plan)) ≡ 16 + SET_BYTES + 4 * length plan.from
plan_short plan =
    let set = bytes_of SET_BYTES plan.list in
    let fresh = u8 (flag plan.fresh) in
    let a = length-append set (u32 plan.node) in
    let b = length-append (set ++ u32 plan.node) fresh in
    let c = length-append (set ++ u32 plan.node ++ fresh) (counted u32 plan.from) in
    omega (arith, numbers_short plan.from, length-bytes_of SET_BYTES plan.list, a, b, c)

pub cover_answer_short : (c : Catalogue) (file : List ℕ) (len : ℕ) (list most : ℕ) (a : Answer)
    → AnswersCover c file len list a → size list ≤ most → length (answer_bytes a) ≤ 16 + SET_BYTES + 4 * most
cover_answer_short c file len list most (answers.Plan plan) (none, is) few =
    let from : length plan.from ≡ length (plan_of c.base.sets list).from = ap (λ (x : Plan). length x.from) is in
    omega (arith, plan_short plan, from, plan-few c.base.sets list)
cover_answer_short c file len list most (answers.Refused why) is few = omega arith
cover_answer_short c file len list most a is few = absurd is

pub replan_answer_short : (c : Catalogue) (file len most : ℕ) (a : Answer)
    → AnswersReplan c file len a → size (list_in (outline c) file) ≤ most
    → length (answer_bytes a) ≤ 16 + SET_BYTES + 4 * most
replan_answer_short c file len most (answers.Plan plan) (none, is) few =
    let list = list_in (outline c) file in
    let from : length plan.from ≡ length (plan_of c.base.sets list).from = ap (λ (x : Plan). length x.from) is in
    omega (arith, plan_short plan, from, plan-few c.base.sets list)
replan_answer_short c file len most (answers.Refused why) is few = omega arith
replan_answer_short c file len most a is few = absurd is

-- ---- updates, and their answers

grant_short : (user file : ℕ) (token : Option _) → HasForm second_form (SealedGrant user file token)
    → length (spelling second_form (SealedGrant user file token)) ≤ 66
grant_short user file None form = omega arith
grant_short user file (Some token) form = let is : length token.bytes ≡ 32 = form.2 in omega arith

-- an update without the bytes of a file
pub short_update : (u : SealedUpdate) → HasForm second_form u → text_of u ≡ None
    → length (spelling second_form u) ≤ 66
short_update (SealedEnrol name) form none = omega (arith, name_short name form)
short_update (SealedCreate name list tokens tag bytes) form none = absurd (cc none)
short_update (SealedGrant user file token) form none = grant_short user file token form
short_update (SealedRevoke user file) form none = omega arith
short_update (SealedRemove file) form none = omega arith
short_update (SealedReplace name tokens tag bytes) form none = absurd (cc none)

creation_length : (name : List ℕ) (list : ℕ) (tokens : List _) (tag bytes : List ℕ)
    → HasForm second_form (SealedCreate name list tokens tag bytes)
    → length (spelling second_form (SealedCreate name list tokens tag bytes))
    ≤ 104 + SET_BYTES + 32 * length tokens + length bytes
creation_length name list tokens tag bytes form =
    let one = name_short name form.0 in
    let all = (many_reads token_reads (length tokens)).short tokens (form.3, refl) in
    let a = length-append (name_field name) (bytes_of SET_BYTES list) in
    let b = length-append (name_field name ++ bytes_of SET_BYTES list) (counted token_field tokens) in
    let c = length-append (name_field name ++ bytes_of SET_BYTES list ++ counted token_field tokens) tag in
    let d = length-append (name_field name ++ bytes_of SET_BYTES list ++ counted token_field tokens ++ tag) (sized bytes) in
    omega (arith, one, all, a, b, c, d, length-bytes_of SET_BYTES list, form.4)

pub creation_short : (k : Masters) (y : Layers) (names : List (List ℕ)) (file : List ℕ)
    (list most : ℕ) (bytes : List ℕ)
    → size list ≤ most
    → HasForm second_form (spelled names (sealed_update k y (PlainCreate file list bytes)))
    → length (spelling second_form (spelled names (sealed_update k y (PlainCreate file list bytes)))) ≤ 104 + SET_BYTES + 32 * most + length bytes
creation_short k y names file list most bytes few form =
    let access = access_key k.base (node_for y.base list) in
    let number = length y.files in
    let tokens = cover_tokens Derive k.base (plan_of y.base list) in
    let text = base_text access number bytes in
    let all = creation_length file list tokens (tag_of_file access number bytes) text form in
    let edges : length tokens ≡ length (plan_of y.base list).from = length-map (plan_of y.base list).from _ in
    let same : length text ≡ length bytes = length-xor_pad access 0x42 number 0 bytes in
    let starts = plan-few y.base list in
    omega arith

replacement_length : (name : List ℕ) (tokens : List _) (tag bytes : List ℕ)
    → HasForm second_form (SealedReplace name tokens tag bytes)
    → length (spelling second_form (SealedReplace name tokens tag bytes))
    ≤ 104 + 32 * length tokens + length bytes
replacement_length name tokens tag bytes form =
    let one = name_short name form.1 in
    let all = (many_reads token_reads (length tokens)).short tokens (form.3, refl) in
    let a = length-append (name_field name) (counted token_field tokens) in
    let b = length-append (name_field name ++ counted token_field tokens) tag in
    let c = length-append (name_field name ++ counted token_field tokens ++ tag) (sized bytes) in
    omega (arith, one, all, a, b, c, form.4)

-- the name of a replacement is that of its file among these names
pub replacement_short : (k : Masters) (y : Layers) (names : List (List ℕ)) (file most : ℕ)
    (bytes : List ℕ)
    → size (list_in y file) ≤ most
    → HasForm second_form (spelled names (sealed_update k y (PlainReplace file bytes)))
    → length (spelling second_form (spelled names (sealed_update k y (PlainReplace file bytes)))) ≤ 104 + 32 * most + length bytes
replacement_short k y names file most bytes few form =
    let list = list_in y file in
    let access = access_key k.base (node_for y.base list) in
    let number = length y.files in
    let tokens = cover_tokens Derive k.base (plan_of y.base list) in
    let text = base_text access number bytes in
    let all = replacement_length (slice_index_or names file []) tokens (tag_of_file access number bytes) text form in
    let edges : length tokens ≡ length (plan_of y.base list).from = length-map (plan_of y.base list).from _ in
    let same : length text ≡ length bytes = length-xor_pad access 0x42 number 0 bytes in
    let starts = plan-few y.base list in
    omega arith

sealed_answer_short : (c : Catalogue) (u : SealedUpdate) (a : Answer) → AnswersSealed c u a
    → length (answer_bytes a) ≤ 5
sealed_answer_short c u (answers.Accepted epoch) is = omega arith
sealed_answer_short c u (answers.Refused why) is = omega arith
sealed_answer_short c u (answers.BadRequest place) is = omega arith
sealed_answer_short c u a is = absurd is

pub spelled_answer_short : (c : Catalogue) (read : Result SealedUpdate ℕ) (a : Answer)
    → AnswersSpelled c read a → length (answer_bytes a) ≤ 5
spelled_answer_short c (Ok u) a is = sealed_answer_short c u a is
spelled_answer_short c (Err place) a is =
    let n : length (answer_bytes a) ≡ 5 = ap (λ (x : Answer). length (answer_bytes x)) is in omega arith
