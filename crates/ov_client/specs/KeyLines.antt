-- The line of a reader's keys, by which they are handed to a user.
use Rattle.std.specs.Prelude.{◌≡◌, ◌≢◌, ℕ, ◌<◌, List, [], ◌∷◌, ◌++◌}
use Rattle.std.specs.Fmt.{decimal}
use Rattle.hex.specs.Hex.{encode_lower}
use Rattle.ov_base.specs.declared.limits.TheConstants.{MAX_LAYER_NODES}
use Rattle.ov_base.specs.Names.{IsName}
use Rattle.ov_keyfile.specs.KeyFile.{IsEnd, IsKeyLine}
use Rattle.ov_client.specs.Readers.{Reader}

-- a root's number in decimal, and its key as these digits, each behind a space
abbrev pub root_words : ℕ → List ℕ → List ℕ
root_words root digits = 32 ∷ (decimal root ++ 32 ∷ digits)

-- the name, and both roots with their keys as these digits
abbrev pub key_words : Reader → List ℕ → List ℕ → List ℕ
key_words r base surface =
    r.name ++ root_words r.base_root base ++ root_words r.surface_root surface

-- the line as it is written: with small digits, and LF
abbrev pub key_line : Reader → List ℕ
key_line r = key_words r (encode_lower r.base) (encode_lower r.surface) ++ 10 ∷ []

-- These bytes are a line of this reader's keys: the words, with one space between two of them, and
-- LF or nothing. The digits of keys are small or capital, and a root is a number of a node.
pub record IsLineOf (text : List ℕ) (r : Reader) : Type 0 where
  pub base : List ℕ
  pub surface : List ℕ
  pub end : List ℕ
  pub words : text ≡ key_words r base surface ++ end
  pub name : IsName r.name
  pub base_root : r.base_root < MAX_LAYER_NODES
  pub base_digits : IsKeyLine base r.base
  pub surface_root : r.surface_root < MAX_LAYER_NODES
  pub surface_digits : IsKeyLine surface r.surface
  pub last : IsEnd end

-- ---- inner: what the reader of a line finds on its way

-- no byte is a space
abbrev pub HasNoSpace : List ℕ → Type 0
HasNoSpace [] = Unit {0}
HasNoSpace (b ∷ bytes) = (b ≢ 32) × HasNoSpace bytes

-- the text is a root's number, a space and the digits of this key, before the rest
pub record IsRoot (text : List ℕ) (root : ℕ) (key rest : List ℕ) : Type 0 where
  pub digits : List ℕ
  pub words : text ≡ decimal root ++ 32 ∷ (digits ++ rest)
  pub low : root < MAX_LAYER_NODES
  pub key_digits : IsKeyLine digits key
