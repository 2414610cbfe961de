-- Which causes a call by an open book has.
use Rattle.std.proofs.Common.{ℕ, subst}
use Rattle.ov_base.specs.Causes.{Rose}
use Rattle.ov_owning.specs.Causes.{OwnStopsFor}
use Rattle.ov_owning.specs.Endings.{End, HasOwnCause, IsOwnCause}

-- the causes of a call by an open book: it reads no file
pub stops_for : (p q d e : ℕ) (end : End) (no_keys reads : Type 0) → HasOwnCause p q d e end
    → OwnStopsFor no_keys reads (Rose p q) (Rose d e) end
stops_for p q d e end no_keys reads has = record {
  keys = λ is. absurd (subst (λ (x : End). IsOwnCause p q d e x) is has.cause);
  read = λ is. absurd (subst (λ (x : End). IsOwnCause p q d e x) is has.cause);
  link = λ is. subst (λ (x : End). IsOwnCause p q d e x) is has.cause;
  disk = λ is. subst (λ (x : End). IsOwnCause p q d e x) is has.cause;
}
