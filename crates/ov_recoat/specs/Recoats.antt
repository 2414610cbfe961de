-- What becomes of the bytes of files that get other surfaces, one byte at a time.
use Rattle.std.specs.Prelude.{ℕ, ◌==◌, cond, List, [], ◌∷◌, bit_xor, Option, Some, None}
use Rattle.ov_ctr.specs.Ctr.{pad_byte}
use Rattle.ov_history.specs.Rewrites.{Rewrite, surface_key}

-- what becomes of files is by the rewrites of an update, under the surface master
pub record Recoating : Type 0 where
  pub master : List ℕ
  pub rewrites : List Rewrite

-- a byte at this place of a file with a surface coat laid, or taken off, where there is a key
abbrev pub coat_byte : Option (List ℕ) → ℕ → ℕ → ℕ → ℕ
coat_byte None file place byte = byte
coat_byte (Some key) file place byte = bit_xor byte (pad_byte key 0x53 file place)

-- a byte at this place of a file, with the coat of its old surface taken off and that of its new one
-- laid, under the surface master
abbrev pub recoat_byte : List ℕ → Rewrite → ℕ → ℕ → ℕ
recoat_byte master r place byte =
    coat_byte (surface_key master r.new) r.file place
    (coat_byte (surface_key master r.old) r.file place byte)

-- What all these rewrites make of a byte at a place of a file: what the first one of the file does.
-- A file without one keeps its bytes.
abbrev pub recoated : List ℕ → List Rewrite → ℕ → ℕ → ℕ → ℕ
recoated master [] file place byte = byte
recoated master (r ∷ rewrites) file place byte =
    cond (r.file == file) (recoat_byte master r place byte)
    (recoated master rewrites file place byte)
