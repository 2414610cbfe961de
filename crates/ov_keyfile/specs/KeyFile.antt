-- Which bytes are a key file.
use Rattle.std.specs.Prelude.{ℕ, ◌≡◌, ◌≢◌, ◌⊎◌, List, [], ◌∷◌, ◌++◌, length, Option, Some, None, Ok}
use Rattle.hex.specs.Hex.{decode_of}
use Rattle.ov_keyfile.specs.declared.masters.Masters.{Masters}

-- 64 hexadecimal digits, in either case, which are the bytes of this key
pub record IsKeyLine (line key : List ℕ) : Type 0 where
  pub digits : length line ≡ 64
  pub decoded : decode_of line ≡ Ok key

-- LF, or nothing
abbrev pub IsEnd : List ℕ → Type 0
IsEnd end = (end ≡ 10 ∷ []) ⊎ (end ≡ [])

-- two lines of 64 bytes, the last LF of which may be missing
pub record AreLines (file first second : List ℕ) : Type 0 where
  pub end : List ℕ
  pub parts : file ≡ first ++ 10 ∷ (second ++ end)
  pub first_long : length first ≡ 64
  pub second_long : length second ≡ 64
  pub last : IsEnd end

-- two lines of keys that differ
pub record IsKeyFile (file base surface : List ℕ) : Type 0 where
  pub first : List ℕ
  pub second : List ℕ
  pub lines : AreLines file first second
  pub base_line : IsKeyLine first base
  pub surface_line : IsKeyLine second surface
  pub differ : base ≢ surface

-- some two masters make it a key file
abbrev pub HasMasters : List ℕ → Type 0
HasMasters file = (base surface : List ℕ) × IsKeyFile file base surface

-- what is read from a file: its masters, or that it has none
abbrev pub IsReadAs : List ℕ → Option Masters → Type 0
IsReadAs file None = HasMasters file → ⊥
IsReadAs file (Some masters) = IsKeyFile file masters.base.bytes masters.surface.bytes
