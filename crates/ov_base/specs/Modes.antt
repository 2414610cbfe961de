-- The byte and the word of each mode.
use Rattle.std.specs.Prelude.{ℕ, List, codes}
use Rattle.ov_base.specs.declared.mode.Mode.{Mode}
use Rattle.ov_base.specs.declared.mode.Mode.TheVariants.{Full, Delta}

-- the mode's byte in a header and in a welcome
abbrev pub mode_byte : Mode → ℕ
mode_byte Full = 0
mode_byte Delta = 1

-- the mode's word on a command line, in settings and in lines
abbrev pub mode_word : Mode → List ℕ
mode_word Full = codes "full"
mode_word Delta = codes "delta"
