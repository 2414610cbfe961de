-- How the spelling of an update is cut into fields, whatever they mean.
use Rattle.std.specs.Prelude.{ℕ, zero, suc, ◌≡◌, ◌<◌, ◌≤◌, ◌*◌, ◌/◌, ◌^◌, List, [], ◌∷◌, ◌++◌, length, Option, IfSome, Err}
use Rattle.std.specs.Int.{w16, w32}
use Rattle.ov_base.specs.declared.limits.TheConstants.{MAX_USERS, MAX_FILE_BYTES, SET_BYTES}
use Rattle.ov_base.specs.Names.{IsName}
use Rattle.ov_fields.specs.Spelling.{u16, u32, name_field, sized, optional}
use Rattle.ov_fields.specs.Reading.{Read, ◌>>=◌, ◌>>◌, made, at_most, bytes_at, number_at, number_that, sized_at, optional_at, name_at}

-- an update's fields: names, numbers, and bytes as they are
pub data Fields : Type 0 where
  Enrolment : (name : List ℕ) → Fields
  Creation : (name list tokens tag bytes : List ℕ) → Fields
  Grant : (user file : ℕ) → (token : Option (List ℕ)) → Fields
  Revocation : (user file : ℕ) → Fields
  Removal : (file : ℕ) → Fields
  Replacement : (name tokens tag bytes : List ℕ) → Fields

-- bytes as they are
abbrev pub plain : List ℕ → List ℕ
plain bytes = bytes

-- a tag, a check value or a token has 32 bytes
abbrev pub Has32 : List ℕ → Type 0
Has32 bytes = length bytes ≡ 32

-- a set of users has SET_BYTES bytes
abbrev pub HasSet : List ℕ → Type 0
HasSet bytes = length bytes ≡ SET_BYTES

-- tokens as they are, 32 bytes each, behind their number
abbrev pub token_fields : List ℕ → List ℕ
token_fields tokens = u16 (length tokens / 32) ++ tokens

-- whole tokens, at most this many
abbrev pub AreTokens : ℕ → List ℕ → Type 0
AreTokens most tokens =
    (length tokens ≡ 32 * (length tokens / 32)) × (length tokens / 32 ≤ most)

-- the fields in order, behind their kind byte
abbrev pub fields_bytes : Fields → List ℕ
fields_bytes (Enrolment name) = 1 ∷ name_field name
fields_bytes (Creation name list tokens tag bytes) =
    2 ∷ name_field name ++ list ++ token_fields tokens ++ tag ++ sized bytes
fields_bytes (Grant user file token) = 3 ∷ u32 user ++ u32 file ++ optional plain token
fields_bytes (Revocation user file) = 4 ∷ u32 user ++ u32 file
fields_bytes (Removal file) = 6 ∷ u32 file
fields_bytes (Replacement name tokens tag bytes) =
    7 ∷ name_field name ++ token_fields tokens ++ tag ++ sized bytes

-- which fields make an update
abbrev pub HasFields : Fields → Type 0
HasFields (Enrolment name) = IsName name
HasFields (Creation name list tokens tag bytes) =
    IsName name × HasSet list × AreTokens MAX_USERS tokens × Has32 tag
    × (length bytes ≤ MAX_FILE_BYTES)
HasFields (Grant user file token) = (user < 2 ^ 32) × (file < 2 ^ 32) × IfSome token Has32
HasFields (Revocation user file) = (user < 2 ^ 32) × (file < 2 ^ 32)
HasFields (Removal file) = file < 2 ^ 32
HasFields (Replacement name tokens tag bytes) =
    IsName name × AreTokens MAX_USERS tokens × Has32 tag × (length bytes ≤ MAX_FILE_BYTES)

-- the bytes spell an update
pub record IsSpelling (bytes : List ℕ) : Type 0 where
  pub fields : Fields
  pub form : HasFields fields
  pub spelled : bytes ≡ fields_bytes fields

-- ---- reading

-- at most this many tokens behind their number
unfoldable pub tokens_at : ℕ → List ℕ → Read (List ℕ)
tokens_at most bytes = do
  count ← number_that w16 (at_most most) bytes
  bytes_at (32 * count.0) count.1

-- name, list, tokens, tag and bytes of a creation
abbrev pub creation_at : List ℕ → Read ((((List ℕ × List ℕ) × List ℕ) × List ℕ) × List ℕ)
creation_at =
    name_at >> bytes_at SET_BYTES >> tokens_at MAX_USERS >> bytes_at 32 >> sized_at MAX_FILE_BYTES

-- the creation with these fields
abbrev pub creation : (((List ℕ × List ℕ) × List ℕ) × List ℕ) × List ℕ → Fields
creation ((((name, list), tokens), tag), bytes) = Creation name list tokens tag bytes

-- user, file and token of a grant
abbrev pub grant_at : List ℕ → Read ((ℕ × ℕ) × Option (List ℕ))
grant_at = number_at w32 >> number_at w32 >> optional_at (bytes_at 32)

-- the grant with these fields
abbrev pub grant : (ℕ × ℕ) × Option (List ℕ) → Fields
grant ((user, file), token) = Grant user file token

-- user and file of a revocation
abbrev pub revocation_at : List ℕ → Read (ℕ × ℕ)
revocation_at = number_at w32 >> number_at w32

-- the revocation with these fields
abbrev pub revocation : ℕ × ℕ → Fields
revocation (user, file) = Revocation user file

-- name, tokens, tag and bytes of a replacement
abbrev pub replacement_at : List ℕ → Read (((List ℕ × List ℕ) × List ℕ) × List ℕ)
replacement_at = name_at >> tokens_at MAX_USERS >> bytes_at 32 >> sized_at MAX_FILE_BYTES

-- the replacement with these fields
abbrev pub replacement : ((List ℕ × List ℕ) × List ℕ) × List ℕ → Fields
replacement (((name, tokens), tag), bytes) = Replacement name tokens tag bytes

-- the kind byte, from 1 to 4 or 6 or 7, and the fields of this kind
unfoldable pub fields_at : List ℕ → Read Fields
fields_at [] = Err 0
fields_at (suc zero ∷ bytes) = made Enrolment (name_at bytes)
fields_at (suc (suc zero) ∷ bytes) = made creation (creation_at bytes)
fields_at (suc (suc (suc zero)) ∷ bytes) = made grant (grant_at bytes)
fields_at (suc (suc (suc (suc zero))) ∷ bytes) = made revocation (revocation_at bytes)
fields_at (suc (suc (suc (suc (suc (suc zero))))) ∷ bytes) = made Removal (number_at w32 bytes)
fields_at (suc (suc (suc (suc (suc (suc (suc zero)))))) ∷ bytes) =
    made replacement (replacement_at bytes)
fields_at (kind ∷ bytes) = Err (length (kind ∷ bytes))
