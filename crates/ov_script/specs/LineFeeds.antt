-- LF among some bytes.
use Rattle.std.specs.Prelude.{◌≢◌, ℕ, ◌+◌, ◌==◌, List, [], ◌∷◌, if◌then◌else◌}

-- How many of the bytes are LF.
abbrev pub lf_count : List ℕ → ℕ
lf_count [] = 0
lf_count (b ∷ bytes) = (if b == 10 then 1 else 0) + lf_count bytes

-- No byte is this one.
abbrev pub Lacks : ℕ → List ℕ → Type 0
Lacks byte [] = Unit {0}
Lacks byte (b ∷ bytes) = (b ≢ byte) × Lacks byte bytes

-- No byte is LF.
abbrev pub NoLf : List ℕ → Type 0
NoLf bytes = Lacks 10 bytes
