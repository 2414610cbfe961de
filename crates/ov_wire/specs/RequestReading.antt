-- Reading requests from left to right.
use Rattle.std.specs.Prelude.{ℕ, zero, suc, List, [], ◌∷◌, ◌++◌, length, Result, Ok, Err, if◌then◌else◌}
use Rattle.std.specs.Int.{w16, w32}
use Rattle.ov_base.specs.declared.limits.TheConstants.{MAX_FILE_BYTES, MAX_CHUNK_BYTES}
use Rattle.ov_base.specs.NameLists.{is_among}
use Rattle.ov_fields.specs.Reading.{Read, ◌>>=◌, ◌>>◌, made, spanned, all_of, making, by_rows, placed, any, at_most, between, byte_at, bytes_at, number_at, number_that, name_at, nothing_at}
use Rattle.ov_wire.specs.declared.request.Question.{Question}
use Rattle.ov_wire.specs.declared.request.Question.TheVariants as questions
use Rattle.ov_wire.specs.declared.request.Request.{Request}
use Rattle.ov_wire.specs.declared.request.Request.TheVariants as requests
use Rattle.ov_wire.specs.Updates.{fields_at}
use Rattle.ov_wire.specs.Places.{in_frame}

-- the question before a grant, with its two names
abbrev pub grant : List ℕ × List ℕ → Question
grant (user, file) = questions.Grant user file

-- the question before a revocation, with its two names
abbrev pub revoke : List ℕ × List ℕ → Question
revoke (user, file) = questions.Revoke user file

-- a verb (enrol is 1, grant 3, revoke 4, key 5, remove 6) with the names that its command takes
unfoldable pub question_at : List ℕ → Read Question
question_at [] = Err 0
question_at (suc zero ∷ bytes) = made questions.Enrol (name_at bytes)
question_at (suc (suc (suc zero)) ∷ bytes) = made grant ((name_at >> name_at) bytes)
question_at (suc (suc (suc (suc zero))) ∷ bytes) = made revoke ((name_at >> name_at) bytes)
question_at (suc (suc (suc (suc (suc zero)))) ∷ bytes) = made questions.Key (name_at bytes)
question_at (suc (suc (suc (suc (suc (suc zero))))) ∷ bytes) =
    made questions.Remove (name_at bytes)
question_at (verb ∷ bytes) = Err (length (verb ∷ bytes))

-- `count` names of which none is among the ones that were seen or comes twice. One that does is
-- wrong at its length byte.
unfoldable pub new_names_at : ℕ → List (List ℕ) → List ℕ → Read (List (List ℕ))
new_names_at zero seen bytes = Ok ([], bytes)
new_names_at (suc count) seen bytes = do
  name ← name_at bytes
  others ← if is_among name.0 seen then Err (length bytes)
      else new_names_at count (seen ++ name.0 ∷ []) name.1
  Ok (name.0 ∷ others.0, others.1)

-- at most this many names behind their number
unfoldable pub names_at : ℕ → List ℕ → Read (List (List ℕ))
names_at most bytes = do
  count ← number_that w16 (at_most most) bytes
  new_names_at count.0 [] count.1

-- name, length and names of a Cover
abbrev pub cover_at : List ℕ → Read ((List ℕ × ℕ) × List (List ℕ))
cover_at = name_at >> number_that w32 (at_most MAX_FILE_BYTES) >> names_at 65535

-- the Cover with these fields
abbrev pub cover : (List ℕ × ℕ) × List (List ℕ) → Request
cover ((file, len), names) = requests.Cover file len names

-- an update's spelling, as it stands
abbrev pub spelling_at : List ℕ → Read (List ℕ)
spelling_at = spanned fields_at

-- epoch, spelling and tag of an Update
abbrev pub update_at : List ℕ → Read ((ℕ × List ℕ) × List ℕ)
update_at = number_at w32 >> spelling_at >> bytes_at 32

-- the Update with these fields
abbrev pub update : (ℕ × List ℕ) × List ℕ → Request
update ((epoch, spelling), tag) = requests.Update epoch spelling tag

-- user and file of a Chain
abbrev pub chain_at : List ℕ → Read (List ℕ × List ℕ)
chain_at = name_at >> name_at

-- the Chain with these fields
abbrev pub chain : List ℕ × List ℕ → Request
chain (user, file) = requests.Chain user file

-- file, generation, start and number of bytes of a Chunk
abbrev pub chunk_at : List ℕ → Read (((ℕ × ℕ) × ℕ) × ℕ)
chunk_at =
    number_at w32 >> number_at w32 >> number_at w32
    >> number_that w32 (between 1 MAX_CHUNK_BYTES)

-- the Chunk with these fields
abbrev pub chunk : ((ℕ × ℕ) × ℕ) × ℕ → Request
chunk (((file, generation), start), count) = requests.Chunk file generation start count

-- part and number of a Page
abbrev pub page_at : List ℕ → Read (ℕ × ℕ)
page_at = byte_at any >> number_at w32

-- the Page with these fields
abbrev pub page : ℕ × ℕ → Request
page (part, number) = requests.Page part number

-- name and length of a Replan
abbrev pub replan_at : List ℕ → Read (List ℕ × ℕ)
replan_at = name_at >> number_that w32 (at_most MAX_FILE_BYTES)

-- the Replan with these fields
abbrev pub replan : List ℕ × ℕ → Request
replan (file, len) = requests.Replan file len

-- each kind byte, and how what follows it is read
abbrev pub request_rows : List (ℕ × (List ℕ → Read Request))
request_rows =
    (1, making (λ f. requests.Hello) nothing_at)
    ∷ (2, making requests.Ask question_at)
    ∷ (3, making cover cover_at)
    ∷ (4, making update update_at)
    ∷ (5, making chain chain_at)
    ∷ (6, making chunk chunk_at)
    ∷ (7, making page page_at)
    ∷ (8, making requests.List name_at)
    ∷ (9, making replan replan_at)
    ∷ []

-- the request that the bytes are, or the place of the first wrong byte
abbrev pub request_of : List ℕ → Result Request ℕ
request_of bytes = in_frame bytes (placed (length bytes) (all_of (by_rows request_rows bytes)))
