-- The two coats of a file: the pad of its base layer, which the owner lays, and the pad of its
-- surface layer, which the server lays over it.
use Rattle.std.specs.Prelude.{ℕ, List, Option, Some, None}
use Rattle.std.specs.Option.{option_map}
use Rattle.ov_base.specs.declared.key.Key.{Key}
use Rattle.ov_ctr.specs.Ctr.{xor_pad}

-- the coat of the base layer under an access key, over bytes of the file from a place on: tag byte
-- `B`
abbrev pub base_coat : List ℕ → ℕ → ℕ → List ℕ → List ℕ
base_coat access file start bytes = xor_pad access 0x42 file start bytes

-- the coat of the surface layer under the key of a surface node: tag byte `S`
abbrev pub surface_coat : List ℕ → ℕ → ℕ → List ℕ → List ℕ
surface_coat key file start bytes = xor_pad key 0x53 file start bytes

-- the coat of the surface layer, where the file has one
abbrev pub coated : Option (List ℕ) → ℕ → ℕ → List ℕ → List ℕ
coated None file start bytes = bytes
coated (Some key) file start bytes = surface_coat key file start bytes

-- the base text of a whole file, from its plaintext
abbrev pub base_text : List ℕ → ℕ → List ℕ → List ℕ
base_text access file plain = base_coat access file 0 plain

-- the stored bytes of a whole file, from its base text and the key of its surface, where it has one
abbrev pub stored_under : Option (List ℕ) → ℕ → List ℕ → List ℕ
stored_under surface file text = coated surface file 0 text

-- the bytes of a key that may be there
abbrev pub key_bytes : Option Key → Option (List ℕ)
key_bytes key = option_map (λ (k : Key). k.bytes) key
