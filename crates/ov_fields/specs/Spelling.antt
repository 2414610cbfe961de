-- How fields are spelled in bytes. Numbers have their high byte first.
use Rattle.std.specs.Prelude.{ℕ, ◌≡◌, ◌⊎◌, Bool, true, false, List, [], ◌∷◌, ◌++◌, length, Option, Some, None}
use Rattle.std.specs.Int.{w16, w32, to_be_bytes}
use Rattle.std.specs.List.{flat_map}
use Rattle.ov_tokens.specs.declared.token.Token.{Token}

-- a number of one byte
abbrev pub u8 : ℕ → List ℕ
u8 n = n ∷ []

-- a number of two bytes
abbrev pub u16 : ℕ → List ℕ
u16 n = to_be_bytes w16 n

-- a number of four bytes
abbrev pub u32 : ℕ → List ℕ
u32 n = to_be_bytes w32 n

-- a name: its length, and its bytes
abbrev pub name_field : List ℕ → List ℕ
name_field name = length name ∷ name

-- a token: its 32 bytes
abbrev pub token_field : Token → List ℕ
token_field token = token.bytes

-- bytes behind their number
abbrev pub sized : List ℕ → List ℕ
sized bytes = u32 (length bytes) ++ bytes

-- what follows a flag: 0, or 1 and the value
abbrev pub optional : {A : Type 0} → (A → List ℕ) → Option A → List ℕ
optional field None = 0 ∷ []
optional field (Some value) = 1 ∷ field value

-- the flag of a truth: 1, and 0 else
abbrev pub flag : Bool → ℕ
flag true = 1
flag false = 0

-- values behind their number
abbrev pub counted : {A : Type 0} → (A → List ℕ) → List A → List ℕ
counted field values = u16 (length values) ++ flat_map field values

-- which tokens have a spelling
abbrev pub IsToken : Token → Type 0
IsToken token = length token.bytes ≡ 32

-- the value is one of these
abbrev pub IsOneOf : {A : Type 0} → A → List A → Type 0
IsOneOf a [] = ⊥
IsOneOf a (value ∷ values) = (a ≡ value) ⊎ IsOneOf a values
