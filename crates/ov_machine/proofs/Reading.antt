-- Fronts of lists that are whole.
use Rattle.std.proofs.Common.{◌≡◌, zero, suc, ℕ, List, [], ◌∷◌, length, take, refl, ap, arith}

pub take_whole : {A : Type 0} (xs : List A) (n : ℕ) → n ≡ length xs → take n xs ≡ xs
take_whole {A} [] zero is = refl
take_whole {A} [] (suc n) is = refl
take_whole {A} (x ∷ xs) zero is = absurd (omega arith)
take_whole {A} (x ∷ xs) (suc n) is = ap (λ ys. x ∷ ys) (take_whole xs n (omega arith))
