-- Which bytes are the front of a spelling, and at which place bytes stop being one.
use Rattle.std.specs.Prelude.{ℕ, ◌≡◌, ◌*◌, ◌^◌, ◌≤◌, ◌<◌, ◌⊎◌, List, [], ◌∷◌, ◌++◌, length, get_or}
use Rattle.std.specs.Int.{Width, w16, w32, byte_len, to_be_bytes}
use Rattle.ov_base.specs.Names.{IsName}
use Rattle.ov_fields.specs.Spelling.{name_field}

-- each is a byte
abbrev pub AreAllBytes : List ℕ → Type 0
AreAllBytes bytes = (i : ℕ) → get_or bytes i 0 < 256

-- the bytes are the front of a spelling: there are bytes with which they spell a value with form
pub record IsFront {A : Type 0} (spell : A → List ℕ) (Form : A → Type 0) (front : List ℕ)
    : Type 0 where
  pub value : A
  pub more : List ℕ
  pub form : Form value
  pub spelled : spell value ≡ front ++ more
  pub bytes : AreAllBytes more

-- What of a field may come right before a place, where the bytes from the place on are these:
-- nothing; the first bytes of a name, where `Once` says that names mustn't come twice; and the
-- first bytes of a number, where the bytes end.
pub data IsBegun (Once : Type 0) (begun rest : List ℕ) : Type 0 where
  nothing : begun ≡ [] → IsBegun Once begun rest
  in_name : Once → (name more : List ℕ) → IsName name → name_field name ≡ begun ++ more
      → IsBegun Once begun rest
  in_number : rest ≡ [] → length begun < 4 → IsBegun Once begun rest

-- the number is none of those from the one to the other
abbrev pub IsOutside : ℕ → ℕ → ℕ → Type 0
IsOutside least most n = (n < least) ⊎ (most < n)

-- A number of this width at the front of the rest, which is outside its limits: exactly with the
-- numbers within them a spelling goes on.
pub record IsWrongNumber {A : Type 0} (spell : A → List ℕ) (Form : A → Type 0)
    (front rest : List ℕ) (w : Width) : Type 0 where
  pub n : ℕ
  pub least : ℕ
  pub most : ℕ
  pub after : List ℕ
  pub parts : rest ≡ to_be_bytes w n ++ after
  pub fits : n < 2 ^ (8 * byte_len w)
  pub outside : IsOutside least most n
  pub within : (k : ℕ) → least ≤ k → k ≤ most → IsFront spell Form (front ++ to_be_bytes w k)
  pub others : (k : ℕ) → k < 2 ^ (8 * byte_len w) → IsOutside least most k
      → IsFront spell Form (front ++ to_be_bytes w k) → ⊥

-- What no spelling goes on with behind the front: a byte; a number; or a name, where `Once` says
-- that names mustn't come twice.
pub data IsWrongField {A : Type 0} (spell : A → List ℕ) (Form : A → Type 0) (Once : Type 0)
    (front rest : List ℕ) : Type 0 where
  wrong_byte : (b : ℕ) (after : List ℕ) → rest ≡ b ∷ after
      → (IsFront spell Form (front ++ b ∷ []) → ⊥) → IsWrongField spell Form Once front rest
  wrong_u16 : IsWrongNumber spell Form front rest w16 → IsWrongField spell Form Once front rest
  wrong_u32 : IsWrongNumber spell Form front rest w32 → IsWrongField spell Form Once front rest
  name_twice : Once → (name after : List ℕ) → IsName name → rest ≡ name_field name ++ after
      → (IsFront spell Form (front ++ name_field name) → ⊥)
      → IsWrongField spell Form Once front rest

-- The place of the first field that no spelling goes on with, or the end of bytes that end too
-- early. The bytes before the place are the front of a spelling, but for what of a field has begun.
pub record IsWrongPlace {A : Type 0} (spell : A → List ℕ) (Form : A → Type 0) (Once : Type 0)
    (bytes : List ℕ) (place : ℕ) : Type 0 where
  pub front : List ℕ
  pub rest : List ℕ
  pub parts : bytes ≡ front ++ rest
  pub at_place : place ≡ length front
  pub whole : List ℕ
  pub begun : List ℕ
  pub before : front ≡ whole ++ begun
  pub is_begun : IsBegun Once begun rest
  pub goes_on : IsFront spell Form whole
  pub stops : (rest ≡ []) ⊎ IsWrongField spell Form Once front rest
