-- What is made of the key file.
use Rattle.std.specs.Io.KnownBytes.{Appends}
use Rattle.std.specs.Prelude.{ℕ, ◌≡◌, ◌⊎◌, IfSome, List, Option}
use Rattle.ov_answering.specs.Printing.{keys_line, read_line}
use Rattle.ov_keyfile.specs.KeyFile.{HasMasters}
use Rattle.ov_report.specs.Ends.{EndsIn, EndsOr}

-- What a program that reads a store again makes of the file that is to be its key file. With 0 it
-- has one, and with 10 it has none. Without one the disk stays as it is, and what the words ask for
-- ends in the line on the key file, in that on a failed read, or in that on refused memory.
pub record JudgesKeyFile (asked : Type 0) (keys : Option (List ℕ)) (status : ℕ)
    (old new : Option (List ℕ)) (untouched : Type 0) : Type 0 where
  pub masters : status ≡ 0 → IfSome keys HasMasters
  pub none : status ≡ 10 → IfSome keys (λ file. HasMasters file → ⊥)
  pub line : status ≡ 10 → Appends old new keys_line
  pub unread : IfSome keys (λ file. (HasMasters file → ⊥) → untouched)
  pub ends : asked → IfSome keys (λ file. (HasMasters file → ⊥)
      → EndsOr keys_line 10 old new status ⊎ EndsIn read_line 5 old new status)
