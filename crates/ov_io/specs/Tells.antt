-- What the outside tells: a source, and a sink.
use Rattle.std.specs.Prelude.{ℕ, List, Option}

pub record SourceTells (S : Type 0) : Type 1 where
  -- The bytes that are left, where this source tells them.
  pub left : S → Option (List ℕ)
  -- How often the source has failed; the count stays at 18,446,744,073,709,551,615.
  pub faults : S → ℕ
  -- Which loan this is, for a source that is itself behind a `&mut`, and 0 for any other. Each call
  -- keeps it.
  pub borrow : S → ℕ
  -- That one take leads from the first value to the second. Code over any source can show it of
  -- exactly one call of `take`, not of none and not of two, so its contracts count takes by this
  -- relation.
  pub takes : S → S → Type 0

pub record SinkTells (S : Type 0) : Type 1 where
  -- The bytes that were written, where this sink tells them.
  pub written : S → Option (List ℕ)
  -- How often the sink has failed; the count stays at 18,446,744,073,709,551,615.
  pub faults : S → ℕ
  -- Which loan this is, for a sink that is itself behind a `&mut`, and 0 for any other. Each call
  -- keeps it.
  pub borrow : S → ℕ
  -- That one put leads from the first value to the second.
  pub puts : S → S → Type 0
