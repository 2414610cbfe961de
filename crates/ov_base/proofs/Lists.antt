-- Lists that are cut.
use Rattle.std.proofs.Common.{◌≡◌, ℕ, List, [], ◌∷◌, ◌++◌, length, refl, arith}

-- a list that is cut at one place in two ways has the same parts
pub cut_once : (xs ys x y : List ℕ) → length xs ≡ length ys → xs ++ x ≡ ys ++ y
    → (xs ≡ ys) × (x ≡ y)
cut_once [] [] x y long e = (refl, e)
cut_once [] (b ∷ ys) x y long e = absurd (omega arith)
cut_once (a ∷ xs) [] x y long e = absurd (omega arith)
cut_once (a ∷ xs) (b ∷ ys) x y long e =
    let tail : xs ++ x ≡ ys ++ y = cc in
    let rest = cut_once xs ys x y (omega arith) tail in
    let same : xs ≡ ys = rest.0 in
    let head : a ≡ b = cc in (cc, rest.1)
