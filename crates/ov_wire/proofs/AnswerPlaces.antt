-- The place at which bytes are no answer to a request is that of the first wrong field, or the end.
use Rattle.std.proofs.Common.{◌≡◌, ℕ, zero, suc, ◌^◌, ◌<◌, ◌≤◌, Bool, true, false, cond, eqb, List, [], ◌∷◌, ◌++◌, length, take, drop, Ok, Err, inl, refl, sym, ap, subst, ◌∙◌, length-append, length-take, length-drop, take-append-drop, arith}
use Rattle.std.specs.List.{AllByRecursion}
use Rattle.std.proofs.lemmas.Bool.{eqb-true}
use Rattle.std.proofs.lemmas.List.{append-nil}
use Rattle.ov_base.specs.declared.limits.TheConstants.{MAX_USERS, MAX_FILES, MAX_FILE_BYTES, MAX_LAYER_NODES, MAX_FRAME_BYTES, SET_BYTES}
use Rattle.ov_base.specs.declared.mode.Mode.TheVariants.{Full, Delta}
use Rattle.ov_base.specs.declared.refusal.Refusal.{Refusal}
use Rattle.ov_base.specs.declared.refusal.Refusal.TheVariants.{Taken, NoUser, NoFile}
use Rattle.ov_base.specs.Modes.{mode_byte}
use Rattle.ov_fields.specs.Spelling.{u8, u32, flag, IsOneOf}
use Rattle.ov_fields.specs.Fronts.{IsFront, AreAllBytes, IsWrongPlace}
use Rattle.ov_fields.specs.Reading.{all_of, by_rows, making, placed}
use Rattle.ov_fields.proofs.ReadingLaws.{then_reads}
use Rattle.ov_fields.proofs.FieldLaws.{bytes_reads, number_reads, wide32, test_ok, test_err}
use Rattle.ov_fields.proofs.SetFields.{set_reads}
use Rattle.ov_fields.proofs.TagLaws.{nothing_reads, flag_reads}
use Rattle.ov_fields.proofs.TestLaws.{count_is}
use Rattle.ov_fields.proofs.PlaceLaws.{AreBytes-nil, AreBytes-cons, Stops, at_end, at_byte, has_nothing, HasPlaces, none_before}
use Rattle.ov_fields.proofs.JoinPlaces.{then_places}
use Rattle.ov_fields.proofs.FieldPlaces.{bytes_places, number_places, nothing_places, one_of_places, set_places}
use Rattle.ov_fields.proofs.ListPlaces.{counted_places, optional_places}
use Rattle.ov_fields.proofs.RowPlaces.{RowPlaces, row_places, tail_of, HasTail, IsWhole, OnceOf, rows_fault, wrong_place}
use Rattle.ov_wire.specs.declared.request.Question.{Question}
use Rattle.ov_wire.specs.declared.request.Question.TheVariants as questions
use Rattle.ov_wire.specs.declared.request.Request.{Request}
use Rattle.ov_wire.specs.declared.request.Request.TheVariants as requests
use Rattle.ov_wire.specs.declared.answer.Answer.{Answer}
use Rattle.ov_wire.specs.declared.answer.Answer.TheVariants as answers
use Rattle.ov_wire.specs.AnswerBytes.{answer_bytes}
use Rattle.ov_wire.specs.AnswerReading.{Row, bare, refused, welcome_at, welcome, known_at, known, plan_at, plan, chained_at, chained, up_to, answer_rows, answer_of}
use Rattle.ov_wire.specs.AnswersTo.{IsAnswer, create_refusals, replace_refusals, read_refusals, ask_refusals, update_refusals, users_of, roots_of, files_of, nodes_of, names_user, names_file, wants_of, most_chunk}
use Rattle.ov_wire.specs.Chains.{base_kinds, surface_kinds}
use Rattle.ov_wire.specs.Laws.{HasKind, HasEachAnswer}
use Rattle.ov_wire.specs.Updates.{Has32}
use Rattle.ov_wire.proofs.AnswerFields.{welcome_reads, known_fields, KnownFits, known_reads, either_small, plan_fields, PlanFits, plan_reads, chained_fields, ChainedFits, chained_reads}
use Rattle.ov_wire.proofs.AnswerLaws.{names_few, answer_again}
use Rattle.ov_wire.proofs.ChainLaws.{chain_reads}
use Rattle.ov_wire.proofs.EntryLaws.{entry_or_none_reads}
use Rattle.ov_wire.proofs.EntryPlaces.{entry_or_none_places}
use Rattle.ov_wire.proofs.LongFrames.{not_long}
use Rattle.ov_wire.proofs.NamePlaces.{names_places}
use Rattle.ov_wire.proofs.NamesLaws.{names_reads}
use Rattle.ov_wire.proofs.NumberLaws.{at_most_reads, below_reads, node_reads, mode_reads, refusal_reads, greater_reads, next_reads}
use Rattle.ov_wire.proofs.NumberPlaces.{at_most_places, below_places, node_places, greater_places, next_places, refusal_places, base_has, surface_has, chain_places}
use Rattle.ov_wire.proofs.RequestPlaces.{placed_err}

-- the names of a Listed mustn't come twice
abbrev InListed : ℕ → Type 0
InListed kind = kind ≡ 0x8f

-- numbers have limits
abbrev Limits : Type 0
Limits = Unit {0}

-- a row of answers to the request
abbrev IsPlaced : Request → Row → Type 0
IsPlaced request = RowPlaces InListed Limits answer_bytes (IsAnswer request)

-- ---- fields

welcome_places : {Once : Type 0} → HasPlaces Once Limits welcome_at (λ f. u8 (mode_byte f.0.0) ++ u32 f.0.1 ++ f.1) (λ f. (IsOneOf f.0.0 (Full ∷ Delta ∷ []) × (f.0.1 < 2 ^ 32)) × Has32 f.1)
welcome_places =
    let mode = mode_reads (Full ∷ Delta ∷ []) in
    then_places (then_reads mode (number_reads wide32)) (then_places mode (one_of_places mode_byte (Full ∷ Delta ∷ []) Full (inl refl) (omega arith)) (number_places wide32)) (bytes_places 32)

either_some : (b : Bool) (n : ℕ) → 1 ≤ n → 1 ≤ cond b n 1
either_some true n some = some
either_some false n some = omega arith

not_wanted : (question : Question) → IsOneOf false (wants_of question)
not_wanted (questions.Enrol user) = inl refl
not_wanted (questions.Grant user file) = inl refl
not_wanted (questions.Revoke user file) = inl refl
not_wanted (questions.Key user) = inl refl
not_wanted (questions.Remove file) = inl refl

known_places : {Once : Type 0} (question : Question) → HasPlaces Once Limits (known_at question) known_fields (KnownFits question)
known_places question =
    let users = either_small (names_user question) MAX_USERS (omega arith) in
    let roots = either_small (names_user question) MAX_LAYER_NODES (omega arith) in
    let files = either_small (names_file question) MAX_FILES (omega arith) in
    let nodes = either_small (names_file question) MAX_LAYER_NODES (omega arith) in
    let root = below_reads (roots_of question) roots in
    let two = then_reads (number_reads wide32) (below_reads (users_of question) users) in
    let three = then_reads two root in
    let four = then_reads three root in
    let five = then_reads four (below_reads (files_of question) files) in
    let some_root = either_some (names_user question) MAX_LAYER_NODES (omega arith) in
    then_places (then_reads five (below_reads (nodes_of question) nodes))
    (then_places five
    (then_places four
    (then_places three
    (then_places two
    (then_places (number_reads wide32) (number_places wide32) (below_places (users_of question) (either_some (names_user question) MAX_USERS (omega arith)) users tt))
    (below_places (roots_of question) some_root roots tt)) (below_places (roots_of question) some_root roots tt))
    (below_places (files_of question) (either_some (names_file question) MAX_FILES (omega arith)) files tt))
    (below_places (nodes_of question) (either_some (names_file question) MAX_LAYER_NODES (omega arith)) nodes tt))
    (one_of_places flag (wants_of question) false (not_wanted question) (omega arith))

plan_places : {Once : Type 0} → HasPlaces Once Limits plan_at plan_fields PlanFits
plan_places =
    let two = then_reads (number_reads wide32) (below_reads MAX_FILES (omega arith)) in
    let three = then_reads two (set_reads SET_BYTES) in
    let four = then_reads three node_reads in
    then_places (then_reads four (flag_reads (false ∷ true ∷ [])))
    (then_places four
    (then_places three
    (then_places two (then_places (number_reads wide32) (number_places wide32) (below_places MAX_FILES (omega arith) (omega arith) tt)) (set_places SET_BYTES)) (node_places tt))
    (one_of_places flag (false ∷ true ∷ []) false (inl refl) (omega arith)))
    (counted_places MAX_USERS (omega arith) tt node_reads (node_places tt))

chained_places : {Once : Type 0} → HasPlaces Once Limits chained_at chained_fields ChainedFits
chained_places =
    let two = then_reads (number_reads wide32) (below_reads MAX_FILES (omega arith)) in
    let three = then_reads two (at_most_reads MAX_FILE_BYTES (omega arith)) in
    let four = then_reads three (number_reads wide32) in
    let five = then_reads four (bytes_reads 32) in
    then_places (then_reads five (chain_reads base_kinds))
    (then_places five
    (then_places four
    (then_places three
    (then_places two (then_places (number_reads wide32) (number_places wide32) (below_places MAX_FILES (omega arith) (omega arith) tt)) (at_most_places MAX_FILE_BYTES (omega arith) tt))
    (number_places wide32)) (bytes_places 32))
    (chain_places tt base_kinds base_has))
    (optional_places (chain_places tt surface_kinds surface_has))

-- ---- rows

bare_row : (request : Request) (kind : ℕ) (answer : Answer) → IsAnswer request answer → kind ∷ [] ≡ answer_bytes answer → IsPlaced request (bare kind answer)
bare_row request kind answer is spelled = row_places kind (λ n. answer) nothing_reads nothing_places (record { form = λ n fits. is; spelled = λ n. spelled })

refused_row : (request : Request) (refusals : List Refusal) (r : Refusal) → IsOneOf r refusals → ((r : Refusal) → IsOneOf r refusals → IsAnswer request (answers.Refused r)) → IsPlaced request (refused refusals)
refused_row request refusals r is form = row_places 0x88 answers.Refused (refusal_reads refusals) (refusal_places refusals r is) (record { form = form; spelled = λ r. refl })

-- bytes that are more than was asked for
more_bytes : (n : ℕ) (front : List ℕ) (b : ℕ) (after more : List ℕ) → n ≤ length front → IsWhole (making answers.Bytes (up_to n)) ((front ++ b ∷ []) ++ more) → ⊥
more_bytes n front b after more full ok =
    let bytes = (front ++ b ∷ []) ++ more in
    let t = test_ok (eqb (length (drop n bytes)) 0) (length (drop n bytes)) (answers.Bytes (take n bytes)) ok.0 ok.1 in
    let none : length (drop n bytes) ≡ 0 = eqb-true _ _ t.0 in
    absurd (omega (arith, none, length-drop n bytes, length-append (front ++ b ∷ []) more, length-append front (b ∷ []), full))

bytes_stop : {Once : Type 0} (request : Request) (n : ℕ) (front rest : List ℕ) → n ≤ length front → Stops Once Limits (IsWhole (making answers.Bytes (up_to n))) tail_of (HasTail answer_bytes (IsAnswer request) 0x86) front rest
bytes_stop request n front [] full = at_end refl
bytes_stop request n front (b ∷ after) full = at_byte b after refl (λ more ok. more_bytes n front b after more full ok)

-- bytes that aren't all read are more than this many
ended_err : (k left : ℕ) (a : Answer) → cond (eqb k 0) (Ok a) (Err k) ≡ Err left → 1 ≤ k
ended_err zero left a e = absurd cc
ended_err (suc k) left a e = omega arith

not_all : (n : ℕ) (bytes : List ℕ) (left : ℕ) → all_of (making answers.Bytes (up_to n) bytes) ≡ Err left → n < length bytes
not_all n bytes left e = let some = ended_err (length (drop n bytes)) left (answers.Bytes (take n bytes)) e in omega (arith, some, length-drop n bytes)

few_taken : (n : ℕ) (bytes : List ℕ) → length (take n bytes) ≤ n
few_taken n bytes = omega (arith, length-take n bytes)

bytes_row : (request : Request) (n : ℕ) → ((bytes : List ℕ) → length bytes ≤ n → IsAnswer request (answers.Bytes bytes)) → IsPlaced request (0x86, making answers.Bytes (up_to n))
bytes_row request n form = record {
  fault = λ bytes left fits e.
      let is : length (drop n bytes) ≡ left = test_err (eqb (length (drop n bytes)) 0) (length (drop n bytes)) left (answers.Bytes (take n bytes)) e in
      let long = not_all n bytes left e in
      record {
        front = take n bytes;
        rest = drop n bytes;
        parts = sym (take-append-drop n bytes);
        is_left = is;
        whole = take n bytes;
        begun = [];
        before = sym (append-nil (take n bytes));
        is_begun = has_nothing refl;
        goes_on = record {
          value = (answers.Bytes (take n bytes), take n bytes);
          more = [];
          form = (form (take n bytes) (few_taken n bytes), refl);
          spelled = sym (append-nil (take n bytes));
          bytes = AreBytes-nil.each;
        };
        stops = bytes_stop request n (take n bytes) (drop n bytes) (omega (arith, length-take n bytes, long));
      };
}

an_ask : (question : Question) → (r : Refusal) × IsOneOf r (ask_refusals question)
an_ask (questions.Enrol user) = (Taken, inl refl)
an_ask (questions.Grant user file) = (NoUser, inl refl)
an_ask (questions.Revoke user file) = (NoUser, inl refl)
an_ask (questions.Key user) = (NoUser, inl refl)
an_ask (questions.Remove file) = (NoFile, inl refl)

first_refusal : (refusals : List Refusal) → 1 ≤ length refusals → (r : Refusal) × IsOneOf r refusals
first_refusal [] some = absurd (omega (arith, some))
first_refusal (r ∷ refusals) some = (r, inl refl)

rows_placed : (request : Request) → HasEachAnswer request → AllByRecursion (IsPlaced request) (answer_rows request)
rows_placed requests.Hello has = (
  row_places 0x81 welcome welcome_reads welcome_places (record { form = λ f fits. (fits.0.1, fits.1); spelled = λ f. refl }),
  (bare_row requests.Hello 0x8e answers.NoMemory tt refl, tt),
)
rows_placed (requests.Ask question) has =
    let r = an_ask question in (
      row_places 0x82 known (known_reads question) (known_places question)
          (record { form = λ f fits. (fits.0.0.0.0.0.0, fits.0.0.0.0.0.1, fits.0.0.0.0.1, fits.0.0.0.1, fits.0.0.1, fits.0.1, fits.1); spelled = λ f. refl }),
      (
        refused_row (requests.Ask question) (ask_refusals question) r.0 r.1 (λ r is. is),
        (bare_row (requests.Ask question) 0x8e answers.NoMemory tt refl, tt),
      ),
    )
rows_placed (requests.Cover file len names) has = (
  row_places 0x83 plan plan_reads plan_places
      (record { form = λ f fits. (fits.0.0.0.0.0, fits.0.0.0.0.1, fits.0.0.0.1, fits.0.0.1, count_is (2 ^ 16) MAX_USERS (length f.1) fits.1.0, fits.1.1); spelled = λ f. refl }),
  (
    refused_row (requests.Cover file len names) create_refusals Taken (inl refl) (λ r is. is),
    (bare_row (requests.Cover file len names) 0x8e answers.NoMemory tt refl, tt),
  ),
)
rows_placed (requests.Update epoch spelling tag) has =
    let r = first_refusal (update_refusals spelling) has.1 in (
      row_places 0x84 answers.Accepted (next_reads epoch) (next_places epoch has.0 tt) (record { form = λ k fits. fits; spelled = λ k. refl }),
      (
        refused_row (requests.Update epoch spelling tag) (update_refusals spelling) r.0 r.1 (λ r is. is),
        (
          row_places 0x89 answers.Stale (greater_reads epoch) (greater_places epoch has.0 tt) (record { form = λ k fits. fits; spelled = λ k. refl }),
          (
            bare_row (requests.Update epoch spelling tag) 0x8a answers.BadTag tt refl,
            (
              bare_row (requests.Update epoch spelling tag) 0x8d answers.DeviceFault tt refl,
              (bare_row (requests.Update epoch spelling tag) 0x8e answers.NoMemory tt refl, tt),
            ),
          ),
        ),
      ),
    )
rows_placed (requests.Chain user file) has = (
  row_places 0x85 chained chained_reads chained_places
      (record { form = λ f fits. (fits.0.0.0.0.0.0, fits.0.0.0.0.0.1, fits.0.0.0.0.1, fits.0.0.0.1, fits.0.0.1, fits.0.1, fits.1); spelled = λ f. refl }),
  (
    refused_row (requests.Chain user file) read_refusals NoUser (inl refl) (λ r is. is),
    (bare_row (requests.Chain user file) 0x8e answers.NoMemory tt refl, tt),
  ),
)
rows_placed (requests.Chunk file generation start count) has = (
  bytes_row (requests.Chunk file generation start count) (most_chunk count) (λ bytes few. few),
  (
    refused_row (requests.Chunk file generation start count) (NoFile ∷ []) NoFile (inl refl) (λ r is. is),
    (
      row_places 0x8c answers.Moved (greater_reads generation) (greater_places generation has tt) (record { form = λ k fits. fits; spelled = λ k. refl }),
      (
        bare_row (requests.Chunk file generation start count) 0x8d answers.DeviceFault tt refl,
        (bare_row (requests.Chunk file generation start count) 0x8e answers.NoMemory tt refl, tt),
      ),
    ),
  ),
)
rows_placed (requests.Page part number) has = (
  row_places 0x87 answers.PageOf (entry_or_none_reads part) (entry_or_none_places tt part) (record { form = λ o fits. fits; spelled = λ o. refl }),
  (bare_row (requests.Page part number) 0x8e answers.NoMemory tt refl, tt),
)
rows_placed (requests.List file) has = (
  row_places 0x8f answers.Listed (names_reads MAX_USERS (omega arith)) (names_places MAX_USERS (omega arith) refl tt) (record { form = names_few; spelled = λ names. refl }),
  (
    refused_row (requests.List file) (NoFile ∷ []) NoFile (inl refl) (λ r is. is),
    (bare_row (requests.List file) 0x8e answers.NoMemory tt refl, tt),
  ),
)
rows_placed (requests.Replan file len) has = (
  row_places 0x83 plan plan_reads plan_places
      (record { form = λ f fits. (fits.0.0.0.0.0, fits.0.0.0.0.1, fits.0.0.0.1, fits.0.0.1, count_is (2 ^ 16) MAX_USERS (length f.1) fits.1.0, fits.1.1); spelled = λ f. refl }),
  (
    refused_row (requests.Replan file len) replace_refusals NoFile (inl refl) (λ r is. is),
    (bare_row (requests.Replan file len) 0x8e answers.NoMemory tt refl, tt),
  ),
)

-- ---- the place

no_memory_is : (request : Request) → IsAnswer request answers.NoMemory
no_memory_is request = tt

no_answer : (request : Request) → IsFront answer_bytes (IsAnswer request) []
no_answer request = none_before answers.NoMemory (no_memory_is request) (AreBytes-cons 0x8e [] (omega arith) AreBytes-nil)

-- whether the kind is a Listed's
in_listed : (bytes : List ℕ) → OnceOf InListed bytes → HasKind 0x8f bytes
in_listed [] is = absurd is
in_listed (kind ∷ bytes) is = (bytes, ap (λ (k : ℕ). k ∷ bytes) is)

pub answer_place : (request : Request) (bytes : List ℕ) (place : ℕ) → HasEachAnswer request → AreAllBytes bytes → length bytes ≤ MAX_FRAME_BYTES → answer_of request bytes ≡ Err place
    → IsWrongPlace answer_bytes (IsAnswer request) (HasKind 0x8f bytes) bytes place
answer_place request bytes place has fits few e =
    let read = all_of (by_rows (answer_rows request) bytes) in
    let p = placed_err (length bytes) read place (sym (not_long bytes (placed (length bytes) read) few) ∙ e) in
    let f = rows_fault InListed answer_bytes (IsAnswer request) (answer_rows request) (rows_placed request has) (no_answer request) bytes p.0 (record { each = fits }) p.1 in
    subst (IsWrongPlace answer_bytes (IsAnswer request) (HasKind 0x8f bytes) bytes) p.2
    (wrong_place (by_rows (answer_rows request)) answer_bytes (IsAnswer request) (answer_again request) (in_listed bytes) bytes p.0 f)
