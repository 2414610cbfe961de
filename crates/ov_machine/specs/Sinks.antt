-- What is put to a sink.
use Rattle.std.specs.Prelude.{ℕ, ◌≤◌, List}
use Rattle.std.specs.Prelude.{Option}
use Rattle.std.specs.Io.KnownBytes.{Appends}
use Rattle.ov_base.specs.Causes.{Rose}
use Rattle.ov_io.specs.Tells.{SinkTells}

-- some bytes were put
abbrev pub Grows : Option (List ℕ) → Option (List ℕ) → Type 0
Grows old new = (bytes : List ℕ) × Appends old new bytes

-- Puts add some bytes to a sink. Its count of faults doesn't fall, and it rose where a put failed.
pub record PutsTo {O : Type 0} (tells : SinkTells O) (failed : Type 0) (old new : O) : Type 0 where
  pub grew : Grows (tells.written old) (tells.written new)
  pub later : tells.faults old ≤ tells.faults new
  pub write : failed → Rose (tells.faults old) (tells.faults new)
