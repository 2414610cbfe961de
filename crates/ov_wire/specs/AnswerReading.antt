-- Reading the answers to a request from left to right.
use Rattle.std.specs.Prelude.{ℕ, ◌+◌, Bool, List, [], ◌∷◌, length, take, drop, Option, None, Result, Ok, if◌then◌else◌}
use Rattle.std.specs.Int.{w32}
use Rattle.ov_base.specs.declared.limits.TheConstants.{MAX_USERS, MAX_FILES, MAX_FILE_BYTES, SET_BYTES}
use Rattle.ov_base.specs.declared.mode.Mode.{Mode}
use Rattle.ov_base.specs.declared.mode.Mode.TheVariants.{Full, Delta}
use Rattle.ov_base.specs.declared.refusal.Refusal.{Refusal}
use Rattle.ov_base.specs.declared.refusal.Refusal.TheVariants.{NoFile}
use Rattle.ov_base.specs.Modes.{mode_byte}
use Rattle.ov_base.specs.Refusals.{refusal_number}
use Rattle.ov_tokens.specs.declared.chain.Chain.{Chain}
use Rattle.ov_fields.specs.Spelling.{flag}
use Rattle.ov_fields.specs.Reading.{Read, ◌>>◌, all_of, making, spanned, by_rows, placed, at_most, below, between, byte_at, one_of_at, flag_at, bytes_at, number_at, number_that, set_at, counted_at, optional_at, nothing_at}
use Rattle.ov_wire.specs.declared.request.Question.{Question}
use Rattle.ov_wire.specs.declared.request.Request.{Request}
use Rattle.ov_wire.specs.declared.request.Request.TheVariants as requests
use Rattle.ov_wire.specs.declared.answer.Answer.{Answer}
use Rattle.ov_wire.specs.declared.answer.Answer.TheVariants as answers
use Rattle.ov_wire.specs.Chains.{chain_at, base_kinds, surface_kinds}
use Rattle.ov_wire.specs.Entries.{node_at, entry_at}
use Rattle.ov_wire.specs.RequestReading.{names_at}
use Rattle.ov_wire.specs.AnswersTo.{create_refusals, replace_refusals, read_refusals, ask_refusals, update_refusals, users_of, roots_of, files_of, nodes_of, most_chunk, wants_of}
use Rattle.ov_wire.specs.Places.{in_frame}

-- a row of a table: a kind byte, and how what follows it is read
abbrev pub Row : Type 0
Row = ℕ × (List ℕ → Read Answer)

-- an answer that is its kind byte alone
abbrev pub bare : ℕ → Answer → Row
bare kind answer = (kind, making (λ n. answer) nothing_at)

-- the server's memory ran out
abbrev pub no_memory : Row
no_memory = bare 0x8e answers.NoMemory

-- the server's disk failed
abbrev pub device_fault : Row
device_fault = bare 0x8d answers.DeviceFault

-- one of these refusals
abbrev pub refused : List Refusal → Row
refused refusals = (0x88, making answers.Refused (one_of_at refusal_number refusals))

-- mode, epoch and check value of a Welcome
abbrev pub welcome_at : List ℕ → Read ((Mode × ℕ) × List ℕ)
welcome_at = one_of_at mode_byte (Full ∷ Delta ∷ []) >> number_at w32 >> bytes_at 32

-- the Welcome with these fields
abbrev pub welcome : (Mode × ℕ) × List ℕ → Answer
welcome ((mode, epoch), check) =
    answers.Welcome (record { mode = mode; epoch = epoch; base_check = check })

-- the fields of a Known, in the order of their bytes
abbrev pub known_at : Question → List ℕ → Read ((((((ℕ × ℕ) × ℕ) × ℕ) × ℕ) × ℕ) × Bool)
known_at question =
    number_at w32 >> number_that w32 (below (users_of question))
    >> number_that w32 (below (roots_of question)) >> number_that w32 (below (roots_of question))
    >> number_that w32 (below (files_of question))
    >> number_that w32 (below (nodes_of question)) >> one_of_at flag (wants_of question)

-- the Known with these fields
abbrev pub known : (((((ℕ × ℕ) × ℕ) × ℕ) × ℕ) × ℕ) × Bool → Answer
known ((((((epoch, user), base_root), surface_root), file), node), wants) =
    answers.Known (record {
      epoch = epoch;
      user = user;
      base_root = base_root;
      surface_root = surface_root;
      file = file;
      node = node;
      wants = wants;
    })

-- the fields of a Plan, in the order of their bytes
abbrev pub plan_at : List ℕ → Read (((((ℕ × ℕ) × ℕ) × ℕ) × Bool) × List ℕ)
plan_at =
    number_at w32 >> number_that w32 (below MAX_FILES) >> set_at SET_BYTES >> node_at >> flag_at
    >> counted_at MAX_USERS node_at

-- the Plan with these fields
abbrev pub plan : ((((ℕ × ℕ) × ℕ) × ℕ) × Bool) × List ℕ → Answer
plan (((((epoch, file), list), node), fresh), from) =
    answers.Plan (record {
      epoch = epoch;
      file = file;
      list = list;
      node = node;
      fresh = fresh;
      from = from;
    })

-- the fields of a Chained, in the order of their bytes
abbrev pub chained_at : List ℕ → Read ((((((ℕ × ℕ) × ℕ) × ℕ) × List ℕ) × Chain) × Option Chain)
chained_at =
    number_at w32 >> number_that w32 (below MAX_FILES)
    >> number_that w32 (at_most MAX_FILE_BYTES) >> number_at w32 >> bytes_at 32
    >> chain_at base_kinds >> optional_at (chain_at surface_kinds)

-- the Chained with these fields
abbrev pub chained : (((((ℕ × ℕ) × ℕ) × ℕ) × List ℕ) × Chain) × Option Chain → Answer
chained ((((((epoch, file), len), generation), tag), base), surface) =
    answers.Chained (record {
      epoch = epoch;
      file = file;
      length = len;
      generation = generation;
      tag = tag;
      base = base;
      surface = surface;
    })

-- all bytes that are left, of which there are at most this many
abbrev pub up_to : ℕ → List ℕ → Read (List ℕ)
up_to count bytes = Ok (take count bytes, drop count bytes)

-- an entry of this part as it stands, where there can be one
abbrev pub entry_or_none_at : ℕ → List ℕ → Read (Option (List ℕ))
entry_or_none_at part =
    if between 1 5 part then optional_at (spanned (entry_at part))
    else making (λ b. None) (byte_at (at_most 0))

-- a number that is greater than this one
abbrev pub greater_at : ℕ → List ℕ → Read ℕ
greater_at n = number_that w32 (between (n + 1) 4294967295)

-- the number after this one
abbrev pub next_at : ℕ → List ℕ → Read ℕ
next_at n = number_that w32 (between (n + 1) (n + 1))

-- ---- each kind byte that may come, and how what follows it is read

-- the rows of an answer to Hello
abbrev pub hello_rows : List Row
hello_rows = (0x81, making welcome welcome_at) ∷ no_memory ∷ []

-- the rows of an answer to Ask
abbrev pub ask_rows : Question → List Row
ask_rows question =
    (0x82, making known (known_at question)) ∷ refused (ask_refusals question) ∷ no_memory ∷ []

-- the rows of an answer to a request for a plan that has these refusals
abbrev pub plan_rows : List Refusal → List Row
plan_rows refusals = (0x83, making plan plan_at) ∷ refused refusals ∷ no_memory ∷ []

-- the rows of an answer to Update
abbrev pub update_rows : ℕ → List ℕ → List Row
update_rows epoch spelling =
    (0x84, making answers.Accepted (next_at epoch)) ∷ refused (update_refusals spelling)
    ∷ (0x89, making answers.Stale (greater_at epoch)) ∷ bare 0x8a answers.BadTag
    ∷ device_fault ∷ no_memory ∷ []

-- the rows of an answer to Chain
abbrev pub chain_rows : List Row
chain_rows = (0x85, making chained chained_at) ∷ refused read_refusals ∷ no_memory ∷ []

-- the rows of an answer to Chunk
abbrev pub chunk_rows : ℕ → ℕ → List Row
chunk_rows generation count =
    (0x86, making answers.Bytes (up_to (most_chunk count))) ∷ refused (NoFile ∷ [])
    ∷ (0x8c, making answers.Moved (greater_at generation)) ∷ device_fault ∷ no_memory ∷ []

-- the rows of an answer to Page
abbrev pub page_rows : ℕ → List Row
page_rows part = (0x87, making answers.PageOf (entry_or_none_at part)) ∷ no_memory ∷ []

-- the rows of an answer to List
abbrev pub list_rows : List Row
list_rows =
    (0x8f, making answers.Listed (names_at MAX_USERS)) ∷ refused (NoFile ∷ []) ∷ no_memory ∷ []

-- the rows of an answer to this request
abbrev pub answer_rows : Request → List Row
answer_rows requests.Hello = hello_rows
answer_rows (requests.Ask question) = ask_rows question
answer_rows (requests.Cover file len names) = plan_rows create_refusals
answer_rows (requests.Update epoch spelling tag) = update_rows epoch spelling
answer_rows (requests.Chain user file) = chain_rows
answer_rows (requests.Chunk file generation start count) = chunk_rows generation count
answer_rows (requests.Page part number) = page_rows part
answer_rows (requests.List file) = list_rows
answer_rows (requests.Replan file len) = plan_rows replace_refusals

-- the answer that the bytes are, or the place of the first wrong byte
abbrev pub answer_of : Request → List ℕ → Result Answer ℕ
answer_of request bytes =
    in_frame bytes (placed (length bytes) (all_of (by_rows (answer_rows request) bytes)))
