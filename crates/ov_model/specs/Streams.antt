-- Streams of frames.
use Rattle.std.specs.Prelude.{ℕ, ◌≡◌, ◌⊎◌, List}
use Rattle.ov_wire.specs.Frames.{IsCut, IsUnfinished, IsBadLength}

-- no whole frame is at the front of these bytes
abbrev pub IsEnd : List ℕ → Type 0
IsEnd rest = IsUnfinished rest ⊎ IsBadLength rest

-- bytes are cut into frames, and what is behind the last whole one, in one way only
abbrev pub StreamsAreCutOneWay : Type 0
StreamsAreCutOneWay =
    (bytes : List ℕ) (frames others : List (List ℕ)) (rest other : List ℕ)
    → IsCut bytes frames rest → IsEnd rest → IsCut bytes others other → IsEnd other
    → (frames ≡ others) × (rest ≡ other)
