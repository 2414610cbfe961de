-- The one spelling of each request, without its length field.
use Rattle.std.specs.Prelude.{ℕ, ◌≤◌, ◌<◌, ◌^◌, List, [], ◌∷◌, ◌++◌, length}
use Rattle.std.specs.List.{AllByRecursion}
use Rattle.ov_base.specs.declared.limits.TheConstants.{MAX_FILE_BYTES, MAX_CHUNK_BYTES, MAX_FRAME_BYTES}
use Rattle.ov_base.specs.Names.{IsName}
use Rattle.ov_base.specs.NameLists.{AreDistinct}
use Rattle.ov_fields.specs.Spelling.{u8, u32, name_field, counted}
use Rattle.ov_wire.specs.declared.request.Question.{Question}
use Rattle.ov_wire.specs.declared.request.Question.TheVariants as questions
use Rattle.ov_wire.specs.declared.request.Request.{Request}
use Rattle.ov_wire.specs.declared.request.Request.TheVariants as requests
use Rattle.ov_wire.specs.Updates.{Has32, IsSpelling}

-- a verb, and the names that the command has
abbrev pub question_bytes : Question → List ℕ
question_bytes (questions.Enrol user) = 1 ∷ name_field user
question_bytes (questions.Grant user file) = 3 ∷ name_field user ++ name_field file
question_bytes (questions.Revoke user file) = 4 ∷ name_field user ++ name_field file
question_bytes (questions.Key user) = 5 ∷ name_field user
question_bytes (questions.Remove file) = 6 ∷ name_field file

-- a kind byte, and the request's fields in order
abbrev pub request_bytes : Request → List ℕ
request_bytes requests.Hello = 1 ∷ []
request_bytes (requests.Ask question) = 2 ∷ question_bytes question
request_bytes (requests.Cover file len names) =
    3 ∷ name_field file ++ u32 len ++ counted name_field names
request_bytes (requests.Update epoch spelling tag) = 4 ∷ u32 epoch ++ spelling ++ tag
request_bytes (requests.Chain user file) = 5 ∷ name_field user ++ name_field file
request_bytes (requests.Chunk file generation start count) =
    6 ∷ u32 file ++ u32 generation ++ u32 start ++ u32 count
request_bytes (requests.Page part number) = 7 ∷ u8 part ++ u32 number
request_bytes (requests.List file) = 8 ∷ name_field file
request_bytes (requests.Replan file len) = 9 ∷ name_field file ++ u32 len

-- names of which none comes twice
abbrev pub AreNames : List (List ℕ) → Type 0
AreNames names = AllByRecursion IsName names × AreDistinct names

-- which commands have a spelling
abbrev pub HasQuestionForm : Question → Type 0
HasQuestionForm (questions.Enrol user) = IsName user
HasQuestionForm (questions.Grant user file) = IsName user × IsName file
HasQuestionForm (questions.Revoke user file) = IsName user × IsName file
HasQuestionForm (questions.Key user) = IsName user
HasQuestionForm (questions.Remove file) = IsName file

-- which requests are in the grammar, however long
abbrev pub IsRequest : Request → Type 0
IsRequest requests.Hello = Unit {0}
IsRequest (requests.Ask question) = HasQuestionForm question
IsRequest (requests.Cover file len names) =
    IsName file × (len ≤ MAX_FILE_BYTES) × (length names < 2 ^ 16) × AreNames names
IsRequest (requests.Update epoch spelling tag) = (epoch < 2 ^ 32) × IsSpelling spelling × Has32 tag
IsRequest (requests.Chain user file) = IsName user × IsName file
IsRequest (requests.Chunk file generation start count) =
    (file < 2 ^ 32) × (generation < 2 ^ 32) × (start < 2 ^ 32)
    × (1 ≤ count) × (count ≤ MAX_CHUNK_BYTES)
IsRequest (requests.Page part number) = number < 2 ^ 32
IsRequest (requests.List file) = IsName file
IsRequest (requests.Replan file len) = IsName file × (len ≤ MAX_FILE_BYTES)

-- which requests can be sent: a frame has room for them
pub record HasRequestForm (request : Request) : Type 0 where
  pub is_request : IsRequest request
  pub fits : length (request_bytes request) ≤ MAX_FRAME_BYTES

-- what a caller sees to before it writes a request, since its type doesn't
abbrev pub HasRequestLimits : Request → Type 0
HasRequestLimits (requests.Cover file len names) =
    (len ≤ MAX_FILE_BYTES) × (length names < 2 ^ 16)
    × (length (request_bytes (requests.Cover file len names)) ≤ MAX_FRAME_BYTES)
HasRequestLimits (requests.Update epoch spelling tag) = IsSpelling spelling
HasRequestLimits (requests.Chunk file generation start count) =
    (1 ≤ count) × (count ≤ MAX_CHUNK_BYTES)
HasRequestLimits (requests.Replan file len) = len ≤ MAX_FILE_BYTES
HasRequestLimits request = Unit {0}

-- the update's spelling and the owner's tag, with which an Update ends
abbrev pub request_body : Request → List ℕ
request_body (requests.Update epoch spelling tag) = spelling ++ tag
request_body request = []
