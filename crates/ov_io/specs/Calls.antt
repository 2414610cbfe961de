-- What calls do to a source that they read.
use Rattle.std.specs.Prelude.{◌≡◌, ◌≢◌, ◌≤◌, ℕ, List, [], ◌++◌}
use Rattle.std.specs.Io.KnownBytes.{Consumes}
use Rattle.ov_base.specs.Causes.{Rose}
use Rattle.ov_io.specs.Tells.{SourceTells}

-- A call that reads a source leaves its loan, and its count of faults doesn't fall; where the call
-- failed for a fault of the source, the count rose.
pub record IsCallOf {S : Type 0} (tells : SourceTells S) (failed : Type 0) (old new : S)
    : Type 0 where
  pub same : tells.borrow new ≡ tells.borrow old
  pub later : tells.faults old ≤ tells.faults new
  pub read : failed → Rose (tells.faults old) (tells.faults new)

-- Pieces were taken from a source, which together are these bytes: none; or some, which left
-- something unsettled, and then one more, which gave some bytes.
pub data TakesPieces {S : Type 0} (tells : SourceTells S) (unsettled : List ℕ → Type 0) (old : S)
    : S → List ℕ → Type 0 where
  no_piece : (new : S) → new ≡ old → TakesPieces tells unsettled old new []
  one_more : (mid new : S) (seen piece : List ℕ)
      → TakesPieces tells unsettled old mid seen → unsettled seen
      → tells.takes mid new → Consumes (tells.left mid) (tells.left new) piece → piece ≢ []
      → TakesPieces tells unsettled old new (seen ++ piece)

-- A call takes from a source only while the bytes that it took leave something unsettled, and never
-- asks it again once it gave nothing. Each take gave some bytes, and the call didn't fail for a
-- fault of the source; or a last take gave nothing, at the end or for a fault, and that ended what
-- the call was for.
pub data TakesWhile {S : Type 0} (tells : SourceTells S) (unsettled : List ℕ → Type 0)
    (ended failed : Type 0) (old new : S) : Type 0 where
  each_gave : (seen : List ℕ) → TakesPieces tells unsettled old new seen → (failed → ⊥)
      → TakesWhile tells unsettled ended failed old new
  last_gave_none : (mid : S) (seen : List ℕ) → TakesPieces tells unsettled old mid seen
      → unsettled seen → tells.takes mid new → Consumes (tells.left mid) (tells.left new) [] → ended
      → TakesWhile tells unsettled ended failed old new
