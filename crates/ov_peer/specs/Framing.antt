-- How often a frame is put.
use Rattle.std.specs.Prelude.{◌⊎◌}
use Rattle.ov_io.specs.Tells.{SinkTells}

-- one put leads from the first value of the sink to the second, or two do
abbrev pub PutsOnceOrTwice : {S : Type 0} → SinkTells S → S → S → Type 0
PutsOnceOrTwice {S} tells old new =
    tells.puts old new ⊎ ((between : S) × tells.puts old between × tells.puts between new)
