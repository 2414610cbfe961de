-- The laws of the pad, and a byte of it at a time.
use Rattle.std.proofs.Common.{◌≡◌, ℕ, zero, suc, ◌+◌, ◌<◌, List, [], ◌∷◌, ◌++◌, length, get_or, bit_xor, refl, sym, ◌∙◌, arith, add-zero}
use Rattle.std.proofs.lemmas.List.{ext_get_or}
use Rattle.ov_aes.proofs.Changes.{xor_twice}
use Rattle.ov_ctr.specs.Ctr.{pad_byte, xor_pad}

pub length-xor_pad : (key : List ℕ) (tag file start : ℕ) (bs : List ℕ) → length (xor_pad key tag file start bs) ≡ length bs
unfolding xor_pad
length-xor_pad key tag file start [] = refl
length-xor_pad key tag file start (b ∷ bs) = rw (length-xor_pad key tag file (start + 1) bs) refl

pub xor_pad-append : (key : List ℕ) (tag file start : ℕ) (bs cs : List ℕ)
    → xor_pad key tag file start (bs ++ cs) ≡ xor_pad key tag file start bs ++ xor_pad key tag file (start + length bs) cs
unfolding xor_pad
xor_pad-append key tag file start [] cs = rw add-zero refl
xor_pad-append key tag file start (b ∷ bs) cs =
    let place : start + 1 + length bs ≡ start + suc (length bs) = omega arith in
    rw (xor_pad-append key tag file (start + 1) bs cs, place) refl

pub get_or-xor_pad : (key : List ℕ) (tag file start : ℕ) (bs : List ℕ) (i : ℕ) → i < length bs
    → get_or (xor_pad key tag file start bs) i 0 ≡ bit_xor (get_or bs i 0) (pad_byte key tag file (start + i))
unfolding xor_pad
get_or-xor_pad key tag file start [] i lt = absurd (omega arith)
get_or-xor_pad key tag file start (b ∷ bs) zero lt = rw add-zero refl
get_or-xor_pad key tag file start (b ∷ bs) (suc i) lt =
    let place : start + 1 + i ≡ start + suc i = omega arith in
    get_or-xor_pad key tag file (start + 1) bs i (omega arith) ∙ rw place refl

pub xor_pad-xor_pad : (key : List ℕ) (tag file start : ℕ) (bs : List ℕ) → xor_pad key tag file start (xor_pad key tag file start bs) ≡ bs
unfolding xor_pad
xor_pad-xor_pad key tag file start [] = refl
xor_pad-xor_pad key tag file start (b ∷ bs) = rw (xor_twice b (pad_byte key tag file start), xor_pad-xor_pad key tag file (start + 1) bs) refl

-- a list of the right length whose bytes are those of the pad over bs
pub pad_by_places : (key : List ℕ) (tag file start : ℕ) (bs cs : List ℕ) → length cs ≡ length bs
    → ((i : ℕ) → i < length bs → get_or cs i 0 ≡ bit_xor (get_or bs i 0) (pad_byte key tag file (start + i)))
    → cs ≡ xor_pad key tag file start bs
pad_by_places key tag file start bs cs len each =
    ext_get_or 0 cs (xor_pad key tag file start bs) (len ∙ sym (length-xor_pad key tag file start bs))
    (λ i lt. let within : i < length bs = omega (arith, len) in each i within ∙ sym (get_or-xor_pad key tag file start bs i within))
