-- The laws of the pad, which hold for every key, tag, file and place.
use Rattle.std.specs.Prelude.{◌≡◌, ℕ, ◌+◌, List, ◌++◌, length}
use Rattle.ov_ctr.specs.Ctr.{xor_pad}

-- the pad keeps the length
abbrev pub KeepsLength : Type 0
KeepsLength = (key : List ℕ) (tag file start : ℕ) (bs : List ℕ)
    → length (xor_pad key tag file start bs) ≡ length bs

-- the pad taken twice gives the bytes back
abbrev pub UndoesItself : Type 0
UndoesItself = (key : List ℕ) (tag file start : ℕ) (bs : List ℕ)
    → xor_pad key tag file start (xor_pad key tag file start bs) ≡ bs

-- the pad over two parts is that over the first, and then that over the second from where the first
-- ends
abbrev pub TakesParts : Type 0
TakesParts = (key : List ℕ) (tag file start : ℕ) (bs cs : List ℕ)
    → xor_pad key tag file start (bs ++ cs)
    ≡ xor_pad key tag file start bs ++ xor_pad key tag file (start + length bs) cs
