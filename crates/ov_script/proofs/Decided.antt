-- What holds or doesn't.
use Rattle.std.proofs.Common.{◌≡◌, ℕ, zero, suc, ap, refl, arith}

-- it holds, or it doesn't
pub data Decided (P : Type 0) : Type 0 where
  yes : P → Decided P
  no' : (P → ⊥) → Decided P

pub same_number : (a b : ℕ) → Decided (a ≡ b)
same_number zero zero = yes refl
same_number zero (suc b) = no' (λ e. absurd (omega arith))
same_number (suc a) zero = no' (λ e. absurd (omega arith))
same_number (suc a) (suc b) =
    elim (same_number a b) as (λ _. Decided (suc a ≡ suc b)) [ yes e ↦ yes (ap suc e) | no' n ↦ no' (λ e. n (omega arith)) ]
