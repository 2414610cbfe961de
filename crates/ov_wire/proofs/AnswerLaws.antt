-- The reader of answers to a request reads exactly the spellings of those that are in its grammar.
use Rattle.std.proofs.Common.{◌≡◌, ℕ, ◌+◌, ◌^◌, ◌≤◌, List, [], ◌∷◌, length, take, drop, Option, Some, None, Ok, Err, refl, sym, ap, subst, ◌∙◌, length-drop, eqb, eq-eqb, arith}
use Rattle.std.specs.Prelude.{IfSome}
use Rattle.std.specs.List.{AllByRecursion}
use Rattle.std.proofs.lemmas.Bool.{eqb-true}
use Rattle.std.proofs.lemmas.List.{take_all}
use Rattle.ov_base.specs.declared.limits.TheConstants.{MAX_USERS, MAX_CHUNK_BYTES}
use Rattle.ov_base.specs.declared.refusal.Refusal.{Refusal}
use Rattle.ov_base.specs.declared.refusal.Refusal.TheVariants.{NoFile}
use Rattle.ov_tokens.specs.declared.chain.Chain.{Chain}
use Rattle.ov_fields.specs.Spelling.{IsOneOf}
use Rattle.ov_fields.specs.Reading.{making, all_of, by_rows}
use Rattle.ov_fields.proofs.ReadingLaws.{AreBytes, done}
use Rattle.ov_fields.proofs.FieldLaws.{test_ok, test_err, test_again}
use Rattle.ov_fields.proofs.TagLaws.{nothing_reads, each_flag}
use Rattle.ov_fields.proofs.TestLaws.{count_is, is_count}
use Rattle.ov_fields.proofs.RowLaws.{RowReads, row_reads, row_again, rows_take, rows_near}
use Rattle.ov_wire.specs.declared.request.Request.{Request}
use Rattle.ov_wire.specs.declared.request.Request.TheVariants as requests
use Rattle.ov_wire.specs.declared.answer.Answer.{Answer}
use Rattle.ov_wire.specs.declared.answer.Answer.TheVariants as answers
use Rattle.ov_wire.specs.AnswerBytes.{answer_bytes, HasAnswerCounts}
use Rattle.ov_wire.specs.AnswerReading.{bare, refused, welcome, known, plan, chained, up_to, answer_rows}
use Rattle.ov_wire.specs.AnswersTo.{IsAnswer, create_refusals, replace_refusals, read_refusals, ask_refusals, update_refusals, most_chunk}
use Rattle.ov_wire.specs.Chains.{IsChain, surface_kinds}
use Rattle.ov_wire.specs.Requests.{AreNames}
use Rattle.ov_wire.proofs.EntryLaws.{entry_or_none_reads}
use Rattle.ov_wire.proofs.NamesLaws.{AreFewNames, names_reads}
use Rattle.ov_wire.proofs.NumberLaws.{greater_reads, next_reads, refusal_reads}
use Rattle.ov_wire.proofs.AnswerFields.{welcome_reads, each_mode, known_reads, plan_reads, chained_reads}

-- ---- rows

-- no answer has more bytes behind its kind byte
abbrev pub most_bytes : ℕ
most_bytes = 10000000

bare_row : (request : Request) (kind : ℕ) (answer : Answer) → IsAnswer request answer → kind ∷ [] ≡ answer_bytes answer → RowReads answer_bytes (IsAnswer request) most_bytes (bare kind answer)
bare_row request kind answer is spelled = row_reads kind (λ n. answer) most_bytes nothing_reads (omega arith) (record { form = λ n fits. is; spelled = λ n. spelled })

refused_row : (request : Request) (refusals : List Refusal) → ((r : Refusal) → IsOneOf r refusals → IsAnswer request (answers.Refused r)) → RowReads answer_bytes (IsAnswer request) most_bytes (refused refusals)
refused_row request refusals form = row_reads 0x88 answers.Refused most_bytes (refusal_reads refusals) (omega arith) (record { form = form; spelled = λ r. refl })

bytes_row : (request : Request) (n : ℕ) → n ≤ MAX_CHUNK_BYTES → ((bytes : List ℕ) → length bytes ≤ n → IsAnswer request (answers.Bytes bytes))
    → RowReads answer_bytes (IsAnswer request) most_bytes (0x86, making answers.Bytes (up_to n))
bytes_row request n small form = record {
  takes = λ bytes u fits e.
      let end = test_ok (eqb (length (drop n bytes)) 0) (length (drop n bytes)) (answers.Bytes (take n bytes)) u e in
      let none : length (drop n bytes) ≡ 0 = eqb-true _ _ end.0 in
      let few : length bytes ≤ n = omega (arith, length-drop n bytes, none) in
      let all : take n bytes ≡ bytes = take_all n bytes few in
      subst (λ (v : Answer). IsAnswer request v × (0x86 ∷ bytes ≡ answer_bytes v)) (ap answers.Bytes (sym all) ∙ end.1) (form bytes few, refl);
  near = λ bytes left fits e.
      let is : length (drop n bytes) ≡ left = test_err (eqb (length (drop n bytes)) 0) (length (drop n bytes)) left (answers.Bytes (take n bytes)) e in
      (omega (arith, length-drop n bytes, is), omega (arith, length-drop n bytes, is));
}

bytes_again : (n : ℕ) (bytes : List ℕ) → length bytes ≤ n → all_of (making answers.Bytes (up_to n) bytes) ≡ Ok (answers.Bytes bytes)
bytes_again n bytes few =
    let none : length (drop n bytes) ≡ 0 = omega (arith, length-drop n bytes) in
    test_again (eqb (length (drop n bytes)) 0) (length (drop n bytes)) (answers.Bytes (take n bytes)) (eq-eqb _ _ none) ∙ ap (λ (t : List ℕ). done (answers.Bytes t)) (take_all n bytes few)

pub names_few : (names : List (List ℕ)) → AreFewNames MAX_USERS names → (length names ≤ MAX_USERS) × AreNames names
names_few names fits = (fits.few, fits.are_names)

rows_read : (request : Request) → AllByRecursion (RowReads answer_bytes (IsAnswer request) most_bytes) (answer_rows request)
rows_read requests.Hello = (
  row_reads 0x81 welcome most_bytes welcome_reads (omega arith) (record { form = λ f fits. (fits.0.1, fits.1); spelled = λ f. refl }),
  (bare_row requests.Hello 0x8e answers.NoMemory tt refl, tt),
)
rows_read (requests.Ask question) = (
  row_reads 0x82 known most_bytes (known_reads question) (omega arith)
      (record { form = λ f fits. (fits.0.0.0.0.0.0, fits.0.0.0.0.0.1, fits.0.0.0.0.1, fits.0.0.0.1, fits.0.0.1, fits.0.1, fits.1); spelled = λ f. refl }),
  (
    refused_row (requests.Ask question) (ask_refusals question) (λ r is. is),
    (bare_row (requests.Ask question) 0x8e answers.NoMemory tt refl, tt),
  ),
)
rows_read (requests.Cover file len names) = (
  row_reads 0x83 plan most_bytes plan_reads (omega arith)
      (record { form = λ f fits. (fits.0.0.0.0.0, fits.0.0.0.0.1, fits.0.0.0.1, fits.0.0.1, count_is (2 ^ 16) MAX_USERS (length f.1) fits.1.0, fits.1.1); spelled = λ f. refl }),
  (
    refused_row (requests.Cover file len names) create_refusals (λ r is. is),
    (bare_row (requests.Cover file len names) 0x8e answers.NoMemory tt refl, tt),
  ),
)
rows_read (requests.Update epoch spelling tag) = (
  row_reads 0x84 answers.Accepted most_bytes (next_reads epoch) (omega arith) (record { form = λ k fits. fits; spelled = λ k. refl }),
  (
    refused_row (requests.Update epoch spelling tag) (update_refusals spelling) (λ r is. is),
    (
      row_reads 0x89 answers.Stale most_bytes (greater_reads epoch) (omega arith) (record { form = λ k fits. fits; spelled = λ k. refl }),
      (
        bare_row (requests.Update epoch spelling tag) 0x8a answers.BadTag tt refl,
        (
          bare_row (requests.Update epoch spelling tag) 0x8d answers.DeviceFault tt refl,
          (bare_row (requests.Update epoch spelling tag) 0x8e answers.NoMemory tt refl, tt),
        ),
      ),
    ),
  ),
)
rows_read (requests.Chain user file) = (
  row_reads 0x85 chained most_bytes chained_reads (omega arith)
      (record { form = λ f fits. (fits.0.0.0.0.0.0, fits.0.0.0.0.0.1, fits.0.0.0.0.1, fits.0.0.0.1, fits.0.0.1, fits.0.1, fits.1); spelled = λ f. refl }),
  (
    refused_row (requests.Chain user file) read_refusals (λ r is. is),
    (bare_row (requests.Chain user file) 0x8e answers.NoMemory tt refl, tt),
  ),
)
rows_read (requests.Chunk file generation start count) = (
  bytes_row (requests.Chunk file generation start count) (most_chunk count) (omega arith) (λ bytes few. few),
  (
    refused_row (requests.Chunk file generation start count) (NoFile ∷ []) (λ r is. is),
    (
      row_reads 0x8c answers.Moved most_bytes (greater_reads generation) (omega arith) (record { form = λ k fits. fits; spelled = λ k. refl }),
      (
        bare_row (requests.Chunk file generation start count) 0x8d answers.DeviceFault tt refl,
        (bare_row (requests.Chunk file generation start count) 0x8e answers.NoMemory tt refl, tt),
      ),
    ),
  ),
)
rows_read (requests.Page part number) = (
  row_reads 0x87 answers.PageOf most_bytes (entry_or_none_reads part) (omega arith) (record { form = λ o fits. fits; spelled = λ o. refl }),
  (bare_row (requests.Page part number) 0x8e answers.NoMemory tt refl, tt),
)
rows_read (requests.List file) = (
  row_reads 0x8f answers.Listed most_bytes (names_reads MAX_USERS (omega arith)) (omega arith) (record { form = names_few; spelled = λ names. refl }),
  (
    refused_row (requests.List file) (NoFile ∷ []) (λ r is. is),
    (bare_row (requests.List file) 0x8e answers.NoMemory tt refl, tt),
  ),
)
rows_read (requests.Replan file len) = (
  row_reads 0x83 plan most_bytes plan_reads (omega arith)
      (record { form = λ f fits. (fits.0.0.0.0.0, fits.0.0.0.0.1, fits.0.0.0.1, fits.0.0.1, count_is (2 ^ 16) MAX_USERS (length f.1) fits.1.0, fits.1.1); spelled = λ f. refl }),
  (
    refused_row (requests.Replan file len) replace_refusals (λ r is. is),
    (bare_row (requests.Replan file len) 0x8e answers.NoMemory tt refl, tt),
  ),
)

-- what is read is spelled so
pub answer_takes : (request : Request) (bytes : List ℕ) (answer : Answer) → AreBytes bytes → all_of (by_rows (answer_rows request) bytes) ≡ Ok answer → IsAnswer request answer × (bytes ≡ answer_bytes answer)
answer_takes request = rows_take answer_bytes (IsAnswer request) most_bytes (answer_rows request) (rows_read request)

-- a wrong byte is near
pub answer_near : (request : Request) (bytes : List ℕ) (left : ℕ) → AreBytes bytes → all_of (by_rows (answer_rows request) bytes) ≡ Err left → (left ≤ length bytes) × (length bytes ≤ left + (1 + most_bytes))
answer_near request = rows_near answer_bytes (IsAnswer request) most_bytes (answer_rows request) (rows_read request)

-- what is spelled so is read
pub answer_again : (request : Request) (answer : Answer) → IsAnswer request answer → all_of (by_rows (answer_rows request) (answer_bytes answer)) ≡ Ok answer
answer_again requests.Hello answers.NoMemory is = refl
answer_again (requests.Ask question) answers.NoMemory is = refl
answer_again (requests.Cover file len names) answers.NoMemory is = refl
answer_again (requests.Update epoch spelling tag) answers.NoMemory is = refl
answer_again (requests.Chain user file) answers.NoMemory is = refl
answer_again (requests.Chunk file generation start count) answers.NoMemory is = refl
answer_again (requests.Page part number) answers.NoMemory is = refl
answer_again (requests.List file) answers.NoMemory is = refl
answer_again (requests.Replan file len) answers.NoMemory is = refl
answer_again requests.Hello (answers.Welcome w) is = row_again welcome welcome_reads ((w.mode, w.epoch), w.base_check) ((each_mode w.mode, is.0), is.1)
answer_again (requests.Ask question) (answers.Known k) is =
    row_again known (known_reads question) ((((((k.epoch, k.user), k.base_root), k.surface_root), k.file), k.node), k.wants) ((((((is.0, is.1), is.2), is.3), is.4), is.5), is.6)
answer_again (requests.Ask question) (answers.Refused refusal) is = row_again answers.Refused (refusal_reads (ask_refusals question)) refusal is
answer_again (requests.Cover f l ns) (answers.Plan p) is =
    row_again plan plan_reads (((((p.epoch, p.file), p.list), p.node), p.fresh), p.from)
    (((((is.0, is.1), is.2), is.3), each_flag p.fresh), (is_count (2 ^ 16) MAX_USERS (length p.from) (omega arith) is.4, is.5))
answer_again (requests.Cover f l ns) (answers.Refused refusal) is = row_again answers.Refused (refusal_reads create_refusals) refusal is
answer_again (requests.Update made_at spelling tag) (answers.Accepted epoch) is = row_again answers.Accepted (next_reads made_at) epoch is
answer_again (requests.Update made_at spelling tag) (answers.Refused refusal) is = row_again answers.Refused (refusal_reads (update_refusals spelling)) refusal is
answer_again (requests.Update made_at spelling tag) (answers.Stale epoch) is = row_again answers.Stale (greater_reads made_at) epoch is
answer_again (requests.Update made_at spelling tag) answers.BadTag is = refl
answer_again (requests.Update made_at spelling tag) answers.DeviceFault is = refl
answer_again (requests.Chain u f) (answers.Chained c) is =
    row_again chained chained_reads ((((((c.epoch, c.file), c.length), c.generation), c.tag), c.base), c.surface) ((((((is.0, is.1), is.2), is.3), is.4), is.5), is.6)
answer_again (requests.Chain u f) (answers.Refused refusal) is = row_again answers.Refused (refusal_reads read_refusals) refusal is
answer_again (requests.Chunk f asked start count) (answers.Bytes bytes) is = bytes_again (most_chunk count) bytes is
answer_again (requests.Chunk f asked start count) (answers.Refused refusal) is = row_again answers.Refused (refusal_reads (NoFile ∷ [])) refusal is
answer_again (requests.Chunk f asked start count) (answers.Moved generation) is = row_again answers.Moved (greater_reads asked) generation is
answer_again (requests.Chunk f asked start count) answers.DeviceFault is = refl
answer_again (requests.Page part number) (answers.PageOf entry) is = row_again answers.PageOf (entry_or_none_reads part) entry is
answer_again (requests.List file) (answers.Listed names) is = row_again answers.Listed (names_reads MAX_USERS (omega arith)) names (record { few = is.0; are_names = is.1 })
answer_again (requests.List file) (answers.Refused refusal) is = row_again answers.Refused (refusal_reads (NoFile ∷ [])) refusal is
answer_again (requests.Replan f l) (answers.Plan p) is =
    row_again plan plan_reads (((((p.epoch, p.file), p.list), p.node), p.fresh), p.from)
    (((((is.0, is.1), is.2), is.3), each_flag p.fresh), (is_count (2 ^ 16) MAX_USERS (length p.from) (omega arith) is.4, is.5))
answer_again (requests.Replan f l) (answers.Refused refusal) is = row_again answers.Refused (refusal_reads replace_refusals) refusal is
answer_again request answer is = absurd is

-- ---- what is an answer can be written

few_steps : (surface : Option Chain) → IfSome surface (IsChain surface_kinds) → IfSome surface (λ chain. length chain.steps ≤ 65535)
few_steps None is = tt
few_steps (Some chain) is = omega (arith, is.1.0)

pub answer_counts : (request : Request) (answer : Answer) → IsAnswer request answer → HasAnswerCounts answer
answer_counts (requests.Cover f l ns) (answers.Plan plan) is = omega (arith, is.4)
answer_counts (requests.Replan f l) (answers.Plan plan) is = omega (arith, is.4)
answer_counts (requests.Chain u f) (answers.Chained chained) is = (omega (arith, is.5.1.0), few_steps chained.surface is.6)
answer_counts (requests.List file) (answers.Listed names) is = omega (arith, is.0)
answer_counts request (answers.Welcome welcome) is = tt
answer_counts request (answers.Known known) is = tt
answer_counts request (answers.Accepted epoch) is = tt
answer_counts request (answers.Bytes bytes) is = tt
answer_counts request (answers.PageOf entry) is = tt
answer_counts request (answers.Refused refusal) is = tt
answer_counts request (answers.Stale epoch) is = tt
answer_counts request answers.BadTag is = tt
answer_counts request (answers.BadRequest place) is = tt
answer_counts request (answers.Moved generation) is = tt
answer_counts request answers.DeviceFault is = tt
answer_counts request answers.NoMemory is = tt
answer_counts request answer is = absurd is
