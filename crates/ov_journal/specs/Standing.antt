-- What a Book is: unborn, another file, a store with a mode that can't be, or a store.
use Rattle.std.specs.Prelude.{◌≡◌, ◌≢◌, ◌⊎◌, ℕ, ◌≤◌, ◌<◌, List, length, take, drop, slice_index}
use Rattle.ov_journal.specs.declared.header.Header.{Header}
use Rattle.ov_journal.specs.Book.{IsFormat, magic, spelled}

-- no store was begun here: at most one byte, or at most 79 with a gate that isn't open
abbrev pub IsUnborn : List ℕ → Type 0
IsUnborn book = (length book ≤ 1) ⊎ ((length book ≤ 79) × (slice_index book 0 ≢ 1))

-- a store of one of the formats, whatever its mode
pub record HasMagic (book : List ℕ) : Type 0 where
  pub long : 79 ≤ length book
  pub open_gate : slice_index book 0 ≡ 1
  pub format : ℕ
  pub known : IsFormat format
  pub magic_bytes : take 8 (drop 1 book) ≡ magic format

-- a Book that is neither unborn nor a store of one of the formats
abbrev pub IsForeign : List ℕ → Type 0
IsForeign book = (IsUnborn book → ⊥) × (HasMagic book → ⊥)

-- a store whose mode byte is neither 0 nor 1
abbrev pub HasNoMode : List ℕ → Type 0
HasNoMode book = HasMagic book × (1 < slice_index book 9)

-- A Book is only one of these. That it is foreign says itself that it is neither unborn nor a
-- store.
abbrev pub IsOneThing : Type 0
IsOneThing =
    (book : List ℕ) → (IsUnborn book → HasMagic book → ⊥)
    × ((header : Header) → take 78 book ≡ spelled header → HasNoMode book → ⊥)
