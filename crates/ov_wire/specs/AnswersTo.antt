-- Which answers are in the grammar of answers to a request, as far as the two decide it.
use Rattle.std.specs.Prelude.{ℕ, ◌≡◌, ◌≤◌, ◌<◌, ◌^◌, ◌+◌, ◌==◌, min, Bool, true, false, List, [], ◌∷◌, length, IfSome, if◌then◌else◌}
use Rattle.std.specs.List.{AllByRecursion}
use Rattle.ov_base.specs.declared.limits.TheConstants.{MAX_USERS, MAX_FILES, MAX_FILE_BYTES, MAX_LAYER_NODES, MAX_CHUNK_BYTES}
use Rattle.ov_base.specs.declared.refusal.Refusal.{Refusal}
use Rattle.ov_base.specs.declared.refusal.Refusal.TheVariants.{Taken, NoUser, NoFile, NoPath, Listed, NotListed, UsersFull, FilesFull, BytesFull, NodesFull, Spent}
use Rattle.ov_base.specs.Sets.{IsBelow}
use Rattle.ov_fields.specs.Spelling.{IsOneOf}
use Rattle.ov_wire.specs.declared.request.Question.{Question}
use Rattle.ov_wire.specs.declared.request.Question.TheVariants as questions
use Rattle.ov_wire.specs.declared.request.Request.{Request}
use Rattle.ov_wire.specs.declared.request.Request.TheVariants as requests
use Rattle.ov_wire.specs.declared.answer.Welcome.{Welcome}
use Rattle.ov_wire.specs.declared.answer.Known.{Known}
use Rattle.ov_wire.specs.declared.answer.Plan.{Plan}
use Rattle.ov_wire.specs.declared.answer.Chained.{Chained}
use Rattle.ov_wire.specs.declared.answer.Answer.{Answer}
use Rattle.ov_wire.specs.declared.answer.Answer.TheVariants as answers
use Rattle.ov_wire.specs.Chains.{IsChain, base_kinds, surface_kinds}
use Rattle.ov_wire.specs.Entries.{IsNode, IsEntry}
use Rattle.ov_wire.specs.Requests.{AreNames}
use Rattle.ov_wire.specs.Updates.{Has32}

-- ---- the refusals that a command can have

-- the refusals of an enrolment
abbrev pub enrol_refusals : List Refusal
enrol_refusals = Taken ∷ UsersFull ∷ NodesFull ∷ Spent ∷ []

-- the refusals of a creation
abbrev pub create_refusals : List Refusal
create_refusals = Taken ∷ NoUser ∷ FilesFull ∷ BytesFull ∷ NodesFull ∷ Spent ∷ []

-- the refusals of a grant
abbrev pub grant_refusals : List Refusal
grant_refusals = NoUser ∷ NoFile ∷ Listed ∷ NodesFull ∷ Spent ∷ []

-- the refusals of a revocation
abbrev pub revoke_refusals : List Refusal
revoke_refusals = NoUser ∷ NoFile ∷ NotListed ∷ NodesFull ∷ Spent ∷ []

-- the refusals of a removal, which needs no node
abbrev pub remove_refusals : List Refusal
remove_refusals = NoFile ∷ Spent ∷ []

-- the refusals of a replacement, which may need a node in each layer
abbrev pub replace_refusals : List Refusal
replace_refusals = NoFile ∷ FilesFull ∷ BytesFull ∷ NodesFull ∷ Spent ∷ []

-- the refusals of a reading
abbrev pub read_refusals : List Refusal
read_refusals = NoUser ∷ NoFile ∷ NoPath ∷ []

-- the refusals of a command whose numbers are asked for
abbrev pub ask_refusals : Question → List Refusal
ask_refusals (questions.Enrol user) = enrol_refusals
ask_refusals (questions.Grant user file) = grant_refusals
ask_refusals (questions.Revoke user file) = revoke_refusals
ask_refusals (questions.Key user) = NoUser ∷ []
ask_refusals (questions.Remove file) = remove_refusals

-- the refusals of an update with this spelling: none where no update is of its kind
abbrev pub update_refusals : List ℕ → List Refusal
update_refusals [] = []
update_refusals (kind ∷ bytes) =
    if kind == 1 then enrol_refusals
    else if kind == 2 then create_refusals
    else if kind == 3 then grant_refusals
    else if kind == 4 then revoke_refusals
    else if kind == 6 then remove_refusals
    else if kind == 7 then replace_refusals
    else []

-- ---- the fields of Known that are 0 where the command is about no user, or about no file

-- whether the command is about a user
abbrev pub names_user : Question → Bool
names_user (questions.Enrol user) = true
names_user (questions.Grant user file) = true
names_user (questions.Revoke user file) = true
names_user (questions.Key user) = true
names_user (questions.Remove file) = false

-- the number that a user's is below
abbrev pub users_of : Question → ℕ
users_of question = if names_user question then MAX_USERS else 1

-- the number that a user's roots are below
abbrev pub roots_of : Question → ℕ
roots_of question = if names_user question then MAX_LAYER_NODES else 1

-- whether the command is about a file
abbrev pub names_file : Question → Bool
names_file (questions.Enrol user) = false
names_file (questions.Grant user file) = true
names_file (questions.Revoke user file) = true
names_file (questions.Key user) = false
names_file (questions.Remove file) = true

-- the number that a file's is below
abbrev pub files_of : Question → ℕ
files_of question = if names_file question then MAX_FILES else 1

-- the number that a base node's is below
abbrev pub nodes_of : Question → ℕ
nodes_of question = if names_file question then MAX_LAYER_NODES else 1

-- whether an access token is wanted, which is so of a grant alone
abbrev pub wants_of : Question → List Bool
wants_of (questions.Grant user file) = false ∷ true ∷ []
wants_of question = false ∷ []

-- a chunk has the asked bytes, and never more than MAX_CHUNK_BYTES
abbrev pub most_chunk : ℕ → ℕ
most_chunk count = min count MAX_CHUNK_BYTES

-- ---- the answers

-- the fields of an answer to Hello
abbrev pub IsWelcome : Welcome → Type 0
IsWelcome welcome = (welcome.epoch < 2 ^ 32) × Has32 welcome.base_check

-- the fields of an answer to Ask
abbrev pub IsKnown : Question → Known → Type 0
IsKnown question known =
    (known.epoch < 2 ^ 32) × (known.user < users_of question)
    × (known.base_root < roots_of question) × (known.surface_root < roots_of question)
    × (known.file < files_of question) × (known.node < nodes_of question)
    × IsOneOf known.wants (wants_of question)

-- the fields of an answer to Cover or to Replan
abbrev pub IsPlan : Plan → Type 0
IsPlan plan =
    (plan.epoch < 2 ^ 32) × (plan.file < MAX_FILES) × IsBelow MAX_USERS plan.list
    × IsNode plan.node × (length plan.from ≤ MAX_USERS) × AllByRecursion IsNode plan.from

-- the fields of an answer to Chain
abbrev pub IsChained : Chained → Type 0
IsChained chained =
    (chained.epoch < 2 ^ 32) × (chained.file < MAX_FILES) × (chained.length ≤ MAX_FILE_BYTES)
    × (chained.generation < 2 ^ 32) × Has32 chained.tag
    × IsChain base_kinds chained.base × IfSome chained.surface (IsChain surface_kinds)

-- the answer is in the grammar of answers to the request
abbrev pub IsAnswer : Request → Answer → Type 0
IsAnswer request answers.NoMemory = Unit {0}
IsAnswer requests.Hello (answers.Welcome welcome) = IsWelcome welcome
IsAnswer (requests.Ask question) (answers.Known known) = IsKnown question known
IsAnswer (requests.Ask question) (answers.Refused refusal) =
    IsOneOf refusal (ask_refusals question)
IsAnswer (requests.Cover file len names) (answers.Plan plan) = IsPlan plan
IsAnswer (requests.Cover file len names) (answers.Refused refusal) =
    IsOneOf refusal create_refusals
IsAnswer (requests.Update made_at spelling tag) (answers.Accepted epoch) =
    (epoch ≡ made_at + 1) × (epoch < 2 ^ 32)
IsAnswer (requests.Update made_at spelling tag) (answers.Refused refusal) =
    IsOneOf refusal (update_refusals spelling)
IsAnswer (requests.Update made_at spelling tag) (answers.Stale epoch) =
    (made_at < epoch) × (epoch < 2 ^ 32)
IsAnswer (requests.Update made_at spelling tag) answers.BadTag = Unit {0}
IsAnswer (requests.Update made_at spelling tag) answers.DeviceFault = Unit {0}
IsAnswer (requests.Chain user file) (answers.Chained chained) = IsChained chained
IsAnswer (requests.Chain user file) (answers.Refused refusal) = IsOneOf refusal read_refusals
IsAnswer (requests.Chunk file asked start count) (answers.Bytes bytes) =
    length bytes ≤ most_chunk count
IsAnswer (requests.Chunk file asked start count) (answers.Refused refusal) =
    IsOneOf refusal (NoFile ∷ [])
IsAnswer (requests.Chunk file asked start count) (answers.Moved generation) =
    (asked < generation) × (generation < 2 ^ 32)
IsAnswer (requests.Chunk file asked start count) answers.DeviceFault = Unit {0}
IsAnswer (requests.Page part number) (answers.PageOf entry) = IfSome entry (IsEntry part)
IsAnswer (requests.List file) (answers.Listed names) =
    (length names ≤ MAX_USERS) × AreNames names
IsAnswer (requests.List file) (answers.Refused refusal) = IsOneOf refusal (NoFile ∷ [])
IsAnswer (requests.Replan file len) (answers.Plan plan) = IsPlan plan
IsAnswer (requests.Replan file len) (answers.Refused refusal) = IsOneOf refusal replace_refusals
IsAnswer request answer = ⊥
