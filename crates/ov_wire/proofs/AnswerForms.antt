-- Answers with form fit frames, and are read as themselves.
use Rattle.std.proofs.Common.{◌≡◌, ℕ, ◌+◌, ◌*◌, ◌^◌, ◌<◌, ◌≤◌, Bool, true, false, cond, List, [], ◌∷◌, ◌++◌, length, get_or, Option, Some, None, Result, Ok, Err, inl, inr, refl, ap, ◌∙◌, length-append, arith}
use Rattle.std.specs.Prelude.{IfSome}
use Rattle.std.specs.Int.{w32}
use Rattle.ov_base.specs.declared.limits.TheConstants.{MAX_USERS, MAX_FILES, MAX_LAYER_NODES, MAX_FRAME_BYTES}
use Rattle.ov_base.specs.declared.refusal.Refusal.{Refusal}
use Rattle.ov_base.specs.declared.refusal.Refusal.TheVariants as refusals
use Rattle.ov_base.specs.Refusals.{refusal_number}
use Rattle.ov_tokens.specs.declared.label.Kind.{Kind}
use Rattle.ov_tokens.specs.declared.chain.Chain.{Chain}
use Rattle.ov_fields.specs.Spelling.{optional, IsOneOf}
use Rattle.ov_fields.specs.Reading.{Read, ◌>>◌, all_of, making, by_rows, placed, below, one_of_at, flag_at, number_at, number_that, optional_at, nothing_at}
use Rattle.ov_fields.proofs.ReadingLaws.{Reads, then_reads}
use Rattle.ov_fields.proofs.FieldLaws.{number_reads, wide32}
use Rattle.ov_fields.proofs.ListLaws.{many_reads}
use Rattle.ov_fields.proofs.TagLaws.{flag_reads, each_flag}
use Rattle.ov_fields.proofs.TestLaws.{is_count}
use Rattle.ov_fields.proofs.RowLaws.{row_again}
use Rattle.ov_wire.specs.declared.request.Request.{Request}
use Rattle.ov_wire.specs.declared.request.Request.TheVariants as requests
use Rattle.ov_wire.specs.declared.answer.Chained.{Chained}
use Rattle.ov_wire.specs.declared.answer.Answer.{Answer}
use Rattle.ov_wire.specs.declared.answer.Answer.TheVariants as answers
use Rattle.ov_wire.specs.AnswerBytes.{answer_bytes, chained_bytes}
use Rattle.ov_wire.specs.AnswerForm.{HasKnownForm, HasChainedForm, HasAnswerForm}
use Rattle.ov_wire.specs.AnswerReading.{answer_of, answer_rows, welcome, welcome_at, known, plan, plan_at, chained, chained_at}
use Rattle.ov_wire.specs.AnswersTo.{IsAnswer, IsWelcome, IsPlan, IsChained, names_user, names_file}
use Rattle.ov_wire.specs.Chains.{chain_field, IsChain, base_kinds, surface_kinds}
use Rattle.ov_wire.specs.Entries.{IsNode, node_at}
use Rattle.ov_wire.specs.Frames.{IsFrame}
use Rattle.ov_wire.specs.Places.{unless_long}
use Rattle.ov_wire.specs.RequestReading.{names_at}
use Rattle.ov_wire.specs.Requests.{AreNames}
use Rattle.ov_wire.proofs.AnswerFields.{welcome_reads, each_mode, KnownFields, known_fields, plan_reads, chained_reads}
use Rattle.ov_wire.proofs.AnswerLaws.{answer_takes}
use Rattle.ov_wire.proofs.ChainLaws.{step_reads}
use Rattle.ov_wire.proofs.EntryLaws.{entry_or_none_reads}
use Rattle.ov_wire.proofs.NamesLaws.{names_reads}
use Rattle.ov_wire.proofs.NumberLaws.{below_reads, node_reads, refusal_reads}

-- ---- how many bytes an answer has

-- no chain within a layer has more bytes
abbrev longest_in_layer : ℕ
longest_in_layer = 6 + MAX_LAYER_NODES * 37

chain_short : (kinds : ℕ → List Kind) (c : Chain) → IsChain kinds c → length c.steps < MAX_LAYER_NODES → length (chain_field c) ≤ longest_in_layer
chain_short kinds c is few =
    let k = (many_reads (step_reads (kinds (length c.steps))) (length c.steps)).short c.steps (is.1.1, refl) in omega (arith, k, few)

surface_short : (o : Option Chain) → IfSome o (IsChain surface_kinds) → IfSome o (λ chain. length chain.steps < MAX_LAYER_NODES) → length (optional chain_field o) ≤ 1 + longest_in_layer
surface_short None is few = omega arith
surface_short (Some c) is few = omega (arith, chain_short surface_kinds c is few)

chained_short : (c : Chained) → HasChainedForm c → length (chained_bytes c) < MAX_FRAME_BYTES
chained_short c form =
    let one = chain_short base_kinds c.base form.0.5 form.1 in
    let two = surface_short c.surface form.0.6 form.2 in
    omega (arith, one, two, form.0.4, length-append (c.tag ++ chain_field c.base) (optional chain_field c.surface), length-append c.tag (chain_field c.base))

fits : (a : Answer) → HasAnswerForm a → length (answer_bytes a) ≤ MAX_FRAME_BYTES
fits (answers.Welcome w) form = let k = welcome_reads.short ((w.mode, w.epoch), w.base_check) ((each_mode w.mode, form.0), form.1) in omega (arith, k)
fits (answers.Known k) form = omega arith
fits (answers.Plan p) form =
    let k = plan_reads.short (((((p.epoch, p.file), p.list), p.node), p.fresh), p.from)
    (((((form.0, form.1), form.2), form.3), each_flag p.fresh), (is_count (2 ^ 16) MAX_USERS (length p.from) (omega arith) form.4, form.5)) in
    omega (arith, k)
fits (answers.Accepted epoch) form = omega arith
fits (answers.Chained c) form = omega (arith, chained_short c form)
fits (answers.Bytes bytes) form = omega (arith, form)
fits (answers.PageOf None) form = omega arith
fits (answers.PageOf (Some e)) form = let k = (entry_or_none_reads form.0).short (Some e) form.1 in omega (arith, k)
fits (answers.Refused refusal) form = omega arith
fits (answers.Stale epoch) form = omega arith
fits answers.BadTag form = omega arith
fits (answers.BadRequest place) form = omega arith
fits (answers.Moved generation) form = omega arith
fits answers.DeviceFault form = omega arith
fits answers.NoMemory form = omega arith
fits (answers.Listed names) form =
    let k = (names_reads MAX_USERS (omega arith)).short names (record { few = form.0; are_names = form.1 }) in omega (arith, k)

some_bytes : (a : Answer) → 1 ≤ length (answer_bytes a)
some_bytes (answers.Welcome w) = omega arith
some_bytes (answers.Known k) = omega arith
some_bytes (answers.Plan p) = omega arith
some_bytes (answers.Accepted epoch) = omega arith
some_bytes (answers.Chained c) = omega arith
some_bytes (answers.Bytes bytes) = omega arith
some_bytes (answers.PageOf entry) = omega arith
some_bytes (answers.Refused refusal) = omega arith
some_bytes (answers.Stale epoch) = omega arith
some_bytes answers.BadTag = omega arith
some_bytes (answers.BadRequest place) = omega arith
some_bytes (answers.Moved generation) = omega arith
some_bytes answers.DeviceFault = omega arith
some_bytes answers.NoMemory = omega arith
some_bytes (answers.Listed names) = omega arith

pub answer_is_frame : (a : Answer) → HasAnswerForm a → IsFrame (answer_bytes a)
answer_is_frame a form = (some_bytes a, fits a form)

-- ---- one reader of all answers, whatever was asked

abbrev whole : List ℕ → Read (List ℕ)
whole bytes = Ok (bytes, [])

abbrev any_known_at : List ℕ → Read KnownFields
any_known_at =
    number_at w32 >> number_that w32 (below MAX_USERS) >> node_at >> node_at >> number_that w32 (below MAX_FILES) >> node_at >> flag_at

abbrev AnyKnown : KnownFields → Type 0
AnyKnown f =
    ((((((f.0.0.0.0.0.0 < 2 ^ 32) × (f.0.0.0.0.0.1 < MAX_USERS)) × IsNode f.0.0.0.0.1) × IsNode f.0.0.0.1) × (f.0.0.1 < MAX_FILES)) × IsNode f.0.1) × IsOneOf f.1 (false ∷ true ∷ [])

any_known_reads : Reads any_known_at known_fields AnyKnown (4 + 4 + 4 + 4 + 4 + 4 + 1)
any_known_reads =
    then_reads (then_reads (then_reads (then_reads (then_reads (then_reads (number_reads wide32) (below_reads MAX_USERS (omega arith))) node_reads) node_reads)
    (below_reads MAX_FILES (omega arith))) node_reads) (flag_reads (false ∷ true ∷ []))

abbrev every_refusal : List Refusal
every_refusal = refusals.Taken ∷ refusals.NoUser ∷ refusals.NoFile ∷ refusals.NoPath ∷ refusals.Listed ∷ refusals.NotListed ∷ refusals.UsersFull ∷ refusals.FilesFull ∷ refusals.BytesFull ∷ refusals.NodesFull ∷ refusals.Spent ∷ []

each_refusal : (r : Refusal) → IsOneOf r every_refusal
each_refusal refusals.Taken = inl refl
each_refusal refusals.NoUser = inr (inl refl)
each_refusal refusals.NoFile = inr (inr (inl refl))
each_refusal refusals.NoPath = inr (inr (inr (inl refl)))
each_refusal refusals.Listed = inr (inr (inr (inr (inl refl))))
each_refusal refusals.NotListed = inr (inr (inr (inr (inr (inl refl)))))
each_refusal refusals.UsersFull = inr (inr (inr (inr (inr (inr (inl refl))))))
each_refusal refusals.FilesFull = inr (inr (inr (inr (inr (inr (inr (inl refl)))))))
each_refusal refusals.BytesFull = inr (inr (inr (inr (inr (inr (inr (inr (inl refl))))))))
each_refusal refusals.NodesFull = inr (inr (inr (inr (inr (inr (inr (inr (inr (inl refl)))))))))
each_refusal refusals.Spent = inr (inr (inr (inr (inr (inr (inr (inr (inr (inr (inl refl))))))))))

abbrev any_rows : List (ℕ × (List ℕ → Read Answer))
any_rows =
    (0x81, making welcome welcome_at)
    ∷ (0x82, making known any_known_at)
    ∷ (0x83, making plan plan_at)
    ∷ (0x84, making answers.Accepted (number_at w32))
    ∷ (0x85, making chained chained_at)
    ∷ (0x86, making answers.Bytes whole)
    ∷ (0x87, making answers.PageOf (optional_at whole))
    ∷ (0x88, making answers.Refused (one_of_at refusal_number every_refusal))
    ∷ (0x89, making answers.Stale (number_at w32))
    ∷ (0x8a, making (λ n. answers.BadTag) nothing_at)
    ∷ (0x8b, making answers.BadRequest (number_at w32))
    ∷ (0x8c, making answers.Moved (number_at w32))
    ∷ (0x8d, making (λ n. answers.DeviceFault) nothing_at)
    ∷ (0x8e, making (λ n. answers.NoMemory) nothing_at)
    ∷ (0x8f, making answers.Listed (names_at MAX_USERS))
    ∷ []

-- what this reader reads
abbrev IsAny : Answer → Type 0
IsAny (answers.Welcome w) = IsWelcome w
IsAny (answers.Known k) = HasKnownForm k
IsAny (answers.Plan p) = IsPlan p
IsAny (answers.Accepted epoch) = epoch < 2 ^ 32
IsAny (answers.Chained c) = IsChained c
IsAny (answers.Bytes bytes) = Unit {0}
IsAny (answers.PageOf entry) = Unit {0}
IsAny (answers.Refused refusal) = Unit {0}
IsAny (answers.Stale epoch) = epoch < 2 ^ 32
IsAny answers.BadTag = Unit {0}
IsAny (answers.BadRequest place) = place < 2 ^ 32
IsAny (answers.Moved generation) = generation < 2 ^ 32
IsAny answers.DeviceFault = Unit {0}
IsAny answers.NoMemory = Unit {0}
IsAny (answers.Listed names) = (length names ≤ MAX_USERS) × AreNames names

any_again : (a : Answer) → IsAny a → all_of (by_rows any_rows (answer_bytes a)) ≡ Ok a
unfolding optional_at one_of_at
any_again (answers.Welcome w) is = row_again welcome welcome_reads ((w.mode, w.epoch), w.base_check) ((each_mode w.mode, is.0), is.1)
any_again (answers.Known k) is =
    row_again known any_known_reads ((((((k.epoch, k.user), k.base_root), k.surface_root), k.file), k.node), k.wants) ((((((is.0, is.1), is.2), is.3), is.4), is.5), each_flag k.wants)
any_again (answers.Plan p) is =
    row_again plan plan_reads (((((p.epoch, p.file), p.list), p.node), p.fresh), p.from)
    (((((is.0, is.1), is.2), is.3), each_flag p.fresh), (is_count (2 ^ 16) MAX_USERS (length p.from) (omega arith) is.4, is.5))
any_again (answers.Accepted epoch) is = row_again answers.Accepted (number_reads wide32) epoch is
any_again (answers.Chained c) is =
    row_again chained chained_reads ((((((c.epoch, c.file), c.length), c.generation), c.tag), c.base), c.surface) ((((((is.0, is.1), is.2), is.3), is.4), is.5), is.6)
any_again (answers.Bytes bytes) is = refl
any_again (answers.PageOf None) is = refl
any_again (answers.PageOf (Some e)) is = refl
any_again (answers.Refused refusal) is = row_again answers.Refused (refusal_reads every_refusal) refusal (each_refusal refusal)
any_again (answers.Stale epoch) is = row_again answers.Stale (number_reads wide32) epoch is
any_again answers.BadTag is = refl
any_again (answers.BadRequest place) is = row_again answers.BadRequest (number_reads wide32) place is
any_again (answers.Moved generation) is = row_again answers.Moved (number_reads wide32) generation is
any_again answers.DeviceFault is = refl
any_again answers.NoMemory is = refl
any_again (answers.Listed names) is = row_again answers.Listed (names_reads MAX_USERS (omega arith)) names (record { few = is.0; are_names = is.1 })

form_is_any : (a : Answer) → HasAnswerForm a → IsAny a
form_is_any (answers.Welcome w) form = form
form_is_any (answers.Known k) form = form
form_is_any (answers.Plan p) form = form
form_is_any (answers.Accepted epoch) form = form
form_is_any (answers.Chained c) form = form.0
form_is_any (answers.Bytes bytes) form = tt
form_is_any (answers.PageOf entry) form = tt
form_is_any (answers.Refused refusal) form = tt
form_is_any (answers.Stale epoch) form = form
form_is_any answers.BadTag form = tt
form_is_any (answers.BadRequest place) form = form
form_is_any (answers.Moved generation) form = form
form_is_any answers.DeviceFault form = tt
form_is_any answers.NoMemory form = tt
form_is_any (answers.Listed names) form = form

below_either : (b : Bool) (n limit : ℕ) → 1 ≤ limit → n < cond b limit 1 → n < limit
below_either true n limit some lt = lt
below_either false n limit some lt = omega (arith, some, lt)

answer_is_any : (request : Request) (a : Answer) → IsAnswer request a → IsAny a
answer_is_any requests.Hello (answers.Welcome w) is = is
answer_is_any (requests.Ask question) (answers.Known k) is = (
  is.0,
  below_either (names_user question) k.user MAX_USERS (omega arith) is.1,
  below_either (names_user question) k.base_root MAX_LAYER_NODES (omega arith) is.2,
  below_either (names_user question) k.surface_root MAX_LAYER_NODES (omega arith) is.3,
  below_either (names_file question) k.file MAX_FILES (omega arith) is.4,
  below_either (names_file question) k.node MAX_LAYER_NODES (omega arith) is.5,
)
answer_is_any (requests.Cover f l ns) (answers.Plan p) is = is
answer_is_any (requests.Update made_at spelling tag) (answers.Accepted epoch) is = is.1
answer_is_any (requests.Update made_at spelling tag) (answers.Stale epoch) is = is.1
answer_is_any (requests.Chain u f) (answers.Chained c) is = is
answer_is_any (requests.Chunk f asked start count) (answers.Moved generation) is = is.1
answer_is_any (requests.List file) (answers.Listed names) is = is
answer_is_any (requests.Replan f l) (answers.Plan p) is = is
answer_is_any request (answers.Bytes bytes) is = tt
answer_is_any request (answers.PageOf entry) is = tt
answer_is_any request (answers.Refused refusal) is = tt
answer_is_any request answers.BadTag is = tt
answer_is_any request answers.DeviceFault is = tt
answer_is_any request answers.NoMemory is = tt
answer_is_any request answer is = absurd is

-- ---- what is read is what was sent

pub long_ok : (b : Bool) (r : Result Answer ℕ) (x : Answer) → unless_long b r ≡ Ok x → r ≡ Ok x
long_ok true r x e = absurd cc
long_ok false r x e = e

pub placed_ok : (n : ℕ) (r : Result Answer ℕ) (x : Answer) → placed n r ≡ Ok x → r ≡ Ok x
placed_ok n (Ok a) x e = e
placed_ok n (Err left) x e = absurd cc

same_answer : (a b : Answer) (r : Result Answer ℕ) → r ≡ Ok a → r ≡ Ok b → a ≡ b
same_answer a b r p q = cc

pub read_alike : (request : Request) (bytes : List ℕ) (sent read : Answer) → ((i : ℕ) → get_or bytes i 0 < 256) → HasAnswerForm sent → bytes ≡ answer_bytes sent
    → answer_of request bytes ≡ Ok read → sent ≡ read
read_alike request bytes sent read are form is e =
    let one = placed_ok (length bytes) (all_of (by_rows (answer_rows request) bytes)) read (long_ok _ _ read e) in
    let t = answer_takes request bytes read (record { each = are }) one in
    same_answer sent read (all_of (by_rows any_rows bytes))
    (ap (λ (l : List ℕ). all_of (by_rows any_rows l)) is ∙ any_again sent (form_is_any sent form))
    (ap (λ (l : List ℕ). all_of (by_rows any_rows l)) t.1 ∙ any_again read (answer_is_any request read t.0))
