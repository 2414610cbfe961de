-- The laws of XOR of lists.
use Rattle.std.proofs.Common.{ℕ, suc, zero, ◌≡◌, ◌∙◌, ◌<◌, ◌≤◌, List, [], ◌∷◌, ap, arith, bit_xor, get_or, length, refl, sym}
use Rattle.std.proofs.lemmas.List.{ext_get_or}
use Rattle.std.proofs.lemmas.Nat.Bits.{bit_at-lt, bit_at_xor, same_from_bits}
use Rattle.ov_tokens.specs.Xor.{xored}

-- a number is XORed with another and then with that again
pub xor_back : (x y : ℕ) → bit_xor (bit_xor x y) y ≡ x
xor_back x y = same_from_bits _ _ (λ i.
    omega (arith, bit_at_xor x y i, bit_at_xor (bit_xor x y) y i, bit_at-lt x i, bit_at-lt y i))

-- a list is XORed with another and then with that again
pub xored_back : (a b : List ℕ) → length a ≡ length b → xored (xored a b) b ≡ a
xored_back [] b same = refl
xored_back (x ∷ a) [] same = absurd (omega arith)
xored_back (x ∷ a) (y ∷ b) same = rw (xor_back x y, xored_back a b (omega arith)) refl

pub length-xored : (a b : List ℕ) → length a ≡ length b → length (xored a b) ≡ length a
length-xored [] b same = refl
length-xored (x ∷ a) [] same = absurd (omega arith)
length-xored (x ∷ a) (y ∷ b) same = ap suc (length-xored a b (omega arith))

pub get_or-xored : (a b : List ℕ) (i : ℕ) → length a ≡ length b → i < length a
    → get_or (xored a b) i 0 ≡ bit_xor (get_or a i 0) (get_or b i 0)
get_or-xored [] b i same below = absurd (omega arith)
get_or-xored (x ∷ a) [] i same below = absurd (omega arith)
get_or-xored (x ∷ a) (y ∷ b) zero same below = refl
get_or-xored (x ∷ a) (y ∷ b) (suc i) same below = get_or-xored a b i (omega arith) (omega arith)

-- a list whose every element is the XOR of those of two others is their XOR
pub xored_by_elements : (a b both : List ℕ) (n : ℕ) → length a ≡ length b → length both ≡ length a
    → length a ≤ n → ((k : ℕ) → k < n → get_or both k 0 ≡ bit_xor (get_or a k 0) (get_or b k 0))
    → both ≡ xored a b
xored_by_elements a b both n same long whole each =
    ext_get_or 0 both (xored a b) (omega (arith, length-xored a b same))
    (λ i below. each i (omega arith) ∙ sym (get_or-xored a b i same (omega arith)))
