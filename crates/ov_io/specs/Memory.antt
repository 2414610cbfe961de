-- A source and a sink in memory.
use Rattle.std.specs.Prelude.{◌≡◌, ℕ, ◌+◌, ◌-◌, ◌^◌, ◌≤◌, List, ◌++◌, length, min, Contains}
use Rattle.std.specs.Prelude.{Result, MatchResult}

-- What is left of a source's bytes, how many of them a call gives at most, the numbers of the calls
-- that fail, how many calls there were, and how many of them failed.
pub record Reads : Type 0 where
  pub left : List ℕ
  pub piece : ℕ
  pub fails : List ℕ
  pub calls : ℕ
  pub faults : ℕ

-- What was put to a sink, the numbers of the calls that fail, how many calls there were, and how
-- many failed.
pub record Writes : Type 0 where
  pub written : List ℕ
  pub fails : List ℕ
  pub calls : ℕ
  pub faults : ℕ

-- The number of calls after one call more, which stays at its last value.
abbrev pub one_call : ℕ → ℕ
one_call calls = min (calls + 1) (2 ^ 64 - 1)

-- A take gives a piece at most, leaves its size and the calls that fail, and is one call.
pub record IsTake (old new : Reads) : Type 0 where
  pub piece : new.piece ≡ old.piece
  pub fails : new.fails ≡ old.fails
  pub calls : new.calls ≡ one_call old.calls
  pub given : (bytes : List ℕ) × (length bytes ≤ old.piece) × (old.left ≡ bytes ++ new.left)

-- A put leaves the calls that fail, and is one call.
pub record IsPut (old new : Writes) : Type 0 where
  pub fails : new.fails ≡ old.fails
  pub calls : new.calls ≡ one_call old.calls

-- A take gives as many bytes as are left, as there is room for and as a piece has, or it is one of
-- the calls that fail.
abbrev pub Gives : {E : Type 0} → Reads → ℕ → Result ℕ E → Type 0
Gives old room result =
    MatchResult result
    (λ n. (Contains old.fails old.calls → ⊥) × (n ≡ min (min (length old.left) room) old.piece))
    (λ _. Contains old.fails old.calls)
