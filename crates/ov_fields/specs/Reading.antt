-- Reading fields from left to right, each from the bytes that those before it left.
use Rattle.std.specs.Prelude.{ℕ, zero, suc, ◌-◌, ◌==◌, ◌&&◌, nat_le, nat_lt, Bool, true, false, List, [], ◌∷◌, length, take, drop, Option, Some, None, Result, Ok, Err, if◌then◌else◌}
use Rattle.std.specs.Int.{Width, w16, w32, byte_len, from_be_bytes}
use Rattle.ov_base.specs.Sets.{set_of_bytes}
use Rattle.ov_base.specs.Names.{is_letter_or_digit, is_name_byte}
use Rattle.ov_base.specs.declared.limits.TheConstants.{MAX_NAME_BYTES}
use Rattle.ov_tokens.specs.declared.token.Token.{Token}
use Rattle.ov_fields.specs.Spelling.{flag}

-- What is read: a value and the bytes after it; or how many bytes are left at the first one that is
-- wrong, its own included, which are none where the bytes end too early.
abbrev pub Read : Type 0 → Type 0
Read A = Result (A × List ℕ) ℕ

infixl 10 ◌>>=◌
-- what is read next from the value, or the fault
abbrev pub ◌>>=◌ : {A B : Type 0} → Result A ℕ → (A → Result B ℕ) → Result B ℕ
(Ok x) >>= next = next x
(Err left) >>= next = Err left

infixl 20 ◌>>◌
-- one field and then another
abbrev pub ◌>>◌ : {A B : Type 0} → (List ℕ → Read A) → (List ℕ → Read B) → List ℕ → Read (A × B)
(first >> second) bytes = do
  a ← first bytes
  b ← second a.1
  Ok ((a.0, b.0), b.1)

-- what is made of the value
abbrev pub made : {A B : Type 0} → (A → B) → Read A → Read B
made make read = do
  a ← read
  Ok (make a.0, a.1)

-- the bytes that are read, as they are
abbrev pub spanned : {A : Type 0} → (List ℕ → Read A) → List ℕ → Read (List ℕ)
spanned read bytes = do
  a ← read bytes
  Ok (take (length bytes - length a.1) bytes, a.1)

-- the bytes after what is read
abbrev pub rest_of : {A : Type 0} → Read A → Result (List ℕ) ℕ
rest_of read = do
  a ← read
  Ok a.1

-- the value, where nothing follows it
abbrev pub all_of : {A : Type 0} → Read A → Result A ℕ
all_of read = do
  a ← read
  if length a.1 == 0 then Ok a.0 else Err (length a.1)

-- a reader of what is made of another's values
abbrev pub making : {A B : Type 0} → (A → B) → (List ℕ → Read A) → List ℕ → Read B
making make read bytes = made make (read bytes)

-- what follows a kind byte, by the rows of a table: a kind, and how the bytes behind it are
-- read
abbrev pub by_kind : {A : Type 0} → List (ℕ × (List ℕ → Read A)) → ℕ → List ℕ → Read A
by_kind [] kind bytes = Err (length (kind ∷ bytes))
by_kind (row ∷ rows) kind bytes = if kind == row.0 then row.1 bytes else by_kind rows kind bytes

-- a kind byte, and what follows it
abbrev pub by_rows : {A : Type 0} → List (ℕ × (List ℕ → Read A)) → List ℕ → Read A
by_rows rows [] = Err 0
by_rows rows (kind ∷ bytes) = by_kind rows kind bytes

-- the place of a wrong byte, counted from the first of this many
abbrev pub placed : {A : Type 0} → ℕ → Result A ℕ → Result A ℕ
placed count (Ok value) = Ok value
placed count (Err left) = Err (count - left)

-- ---- single bytes and numbers

-- a byte that passes the test
unfoldable pub byte_at : (ℕ → Bool) → List ℕ → Read ℕ
byte_at test [] = Err 0
byte_at test (byte ∷ bytes) = if test byte then Ok (byte, bytes) else Err (length (byte ∷ bytes))

-- the value and the bytes after it, or where there is none how many bytes are left
abbrev pub ok_or_left : {A : Type 0} → Option A → List ℕ → ℕ → Read A
ok_or_left (Some value) bytes left = Ok (value, bytes)
ok_or_left None bytes left = Err left

-- the first of these values that has this byte for its tag
abbrev pub tagged_by : {A : Type 0} → (A → ℕ) → List A → ℕ → Option A
tagged_by tag [] byte = None
tagged_by tag (value ∷ values) byte =
    if tag value == byte then Some value else tagged_by tag values byte

-- one of these values, by its tag
unfoldable pub one_of_at : {A : Type 0} → (A → ℕ) → List A → List ℕ → Read A
one_of_at tag values [] = Err 0
one_of_at tag values (byte ∷ bytes) =
    ok_or_left (tagged_by tag values byte) bytes (length (byte ∷ bytes))

-- a flag: 0 for no, and 1 for yes
abbrev pub flag_at : List ℕ → Read Bool
flag_at = one_of_at flag (false ∷ true ∷ [])

-- nothing
abbrev pub nothing_at : List ℕ → Read (Unit {0})
nothing_at bytes = Ok (tt, bytes)

-- a field of `count` bytes
unfoldable pub bytes_at : ℕ → List ℕ → Read (List ℕ)
bytes_at count bytes =
    if nat_lt (length bytes) count then Err 0 else Ok (take count bytes, drop count bytes)

-- a number of this width
abbrev pub number_at : Width → List ℕ → Read ℕ
number_at width bytes = made (from_be_bytes width) (bytes_at (byte_len width) bytes)

-- a number that passes the test; it is wrong at its first byte
unfoldable pub number_that : Width → (ℕ → Bool) → List ℕ → Read ℕ
number_that width test bytes = do
  n ← number_at width bytes
  if test n.0 then Ok n else Err (length bytes)

-- every number passes
abbrev pub any : ℕ → Bool
any n = true

-- numbers up to this one pass
abbrev pub at_most : ℕ → ℕ → Bool
at_most most n = nat_le n most

-- numbers below this one pass
abbrev pub below : ℕ → ℕ → Bool
below limit n = nat_lt n limit

-- numbers from the one to the other pass
abbrev pub between : ℕ → ℕ → ℕ → Bool
between least most n = nat_le least n && nat_le n most

-- a set of users in this many bytes
abbrev pub set_at : ℕ → List ℕ → Read ℕ
set_at count bytes = made set_of_bytes (bytes_at count bytes)

-- ---- lists

-- `count` values, each as this reads it
unfoldable pub many_at : {A : Type 0} → (List ℕ → Read A) → ℕ → List ℕ → Read (List A)
many_at field zero bytes = Ok ([], bytes)
many_at field (suc count) bytes = do
  first ← field bytes
  others ← many_at field count first.1
  Ok (first.0 ∷ others.0, others.1)

-- at most this many values behind their number
unfoldable pub counted_at : {A : Type 0} → ℕ → (List ℕ → Read A) → List ℕ → Read (List A)
counted_at most field bytes = do
  count ← number_that w16 (at_most most) bytes
  many_at field count.0 count.1

-- at most this many bytes behind their number
unfoldable pub sized_at : ℕ → List ℕ → Read (List ℕ)
sized_at most bytes = do
  count ← number_that w32 (at_most most) bytes
  bytes_at count.0 count.1

-- a value where there is one
abbrev pub some_at : {A : Type 0} → Bool → (List ℕ → Read A) → List ℕ → Read (Option A)
some_at true field bytes = made Some (field bytes)
some_at false field bytes = Ok (None, bytes)

-- what follows a flag
unfoldable pub optional_at : {A : Type 0} → (List ℕ → Read A) → List ℕ → Read (Option A)
optional_at field bytes = do
  there ← flag_at bytes
  some_at there.0 field there.1

-- ---- names and tokens

-- a letter or a digit, and then this many bytes that a name may have
abbrev pub text_at : ℕ → List ℕ → Read (List ℕ)
text_at more bytes = do
  first ← byte_at is_letter_or_digit bytes
  others ← many_at (byte_at is_name_byte) more first.1
  Ok (first.0 ∷ others.0, others.1)

-- a length from 1 to MAX_NAME_BYTES, and a name of this length
unfoldable pub name_at : List ℕ → Read (List ℕ)
name_at bytes = do
  count ← byte_at (between 1 MAX_NAME_BYTES) bytes
  text_at (count.0 - 1) count.1

-- the token with these bytes
abbrev pub token_of : List ℕ → Token
token_of bytes = record { bytes = bytes }

-- 32 bytes
abbrev pub token_at : List ℕ → Read Token
token_at bytes = made token_of (bytes_at 32 bytes)
