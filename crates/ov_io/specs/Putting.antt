-- What a call does to the bytes of a sink.
use Rattle.std.specs.Prelude.{ℕ, List, take, Option, Result, MatchResult}
use Rattle.std.specs.Io.KnownBytes.{Appends}

-- At Ok all the bytes were appended, at Err a front of them.
abbrev pub Puts : {E : Type 0} → Option (List ℕ) → Option (List ℕ) → Result Unit E → List ℕ → Type 0
Puts old new result bytes =
    MatchResult result (λ _. Appends old new bytes) (λ _. (n : ℕ) × Appends old new (take n bytes))
