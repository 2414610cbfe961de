-- Inner: no public contract needs this. A source with the bytes that were taken and not yet used.
use Rattle.std.specs.Prelude.{◌≡◌, ℕ, List, ◌++◌, Option}
use Rattle.std.specs.Io.KnownBytes.{prepend_known, Consumes}
use Rattle.ov_io.specs.Tells.{SourceTells}

-- A source, and the bytes that were taken from it and not yet used.
pub record Fed (S : Type 0) : Type 0 where
  pub source : S
  pub pending : List ℕ

-- What is still to be read: the pending bytes, and then what the source has left, where it tells
-- that.
abbrev pub text_of : {S : Type 0} → SourceTells S → Fed S → Option (List ℕ)
text_of tells feed = prepend_known feed.pending (tells.left feed.source)

-- These bytes were used: the first of what was pending and of what was taken from the source behind
-- it.
pub record Uses {S : Type 0} (tells : SourceTells S) (old new : Fed S) (used : List ℕ)
    : Type 0 where
  pub more : List ℕ
  pub source : Consumes (tells.left old.source) (tells.left new.source) more
  pub pending : old.pending ++ more ≡ used ++ new.pending

-- These bytes were taken from the source, and follow those that were pending.
pub record Takes {S : Type 0} (tells : SourceTells S) (old new : Fed S) (more : List ℕ)
    : Type 0 where
  pub pending : new.pending ≡ old.pending ++ more
  pub source : Consumes (tells.left old.source) (tells.left new.source) more
