-- XOR of lists of bytes.
use Rattle.std.specs.Prelude.{ℕ, List, [], ◌∷◌, bit_xor}

-- each byte of the first list XORed with the byte of the second at its place
abbrev pub xored : List ℕ → List ℕ → List ℕ
xored [] b = []
xored (x ∷ a) [] = []
xored (x ∷ a) (y ∷ b) = bit_xor x y ∷ xored a b
